use Rattle.wm_hull.proofs.HullOps.{l_negate_hull}
use Rattle.wm_hull.proofs.hulls.l_negate.Goals as goal

pub returns : goal.returns
returns c = λ y z. l_negate_hull c.args.x y z c.negated.result c.clamped32.result c.negated.ensures.low c.negated.ensures.high c.clamped32.ensures.low c.clamped32.ensures.high
