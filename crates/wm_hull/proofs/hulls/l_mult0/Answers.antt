use Rattle.wm_hull.proofs.HullOps.{l_mult0_hull}
use Rattle.wm_hull.proofs.hulls.l_mult0.Goals as goal

pub returns : goal.returns
returns c = λ z. l_mult0_hull c.args.x c.args.y z c.products.result c.products.ensures.least
