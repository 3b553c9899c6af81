use Rattle.wm_hull.proofs.ProductBounds.{product_box}
use Rattle.wm_hull.proofs.products.products.Goals as goal

pub returns-clause-inside : goal.returns-clause-inside
returns-clause-inside c = product_box c.args.x c.args.y c.mul.result c.requires.first c.requires.second c.mul.ensures.least
