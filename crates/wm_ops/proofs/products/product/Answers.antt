use Rattle.wm_ops.proofs.Bounds.{product_passed}
use Rattle.wm_ops.proofs.products.product.Goals as goal

pub returns-clause-small : goal.returns-clause-small
returns-clause-small c = product_passed c.args.a c.args.b c.ranges.a c.ranges.b c.requires.first c.requires.second
