use Rattle.wm_hull.proofs.HullOps.{negate_hull}
use Rattle.wm_hull.proofs.hulls.negate.Goals as goal

pub returns : goal.returns
returns c = λ y z. negate_hull c.args.x y z c.negated.result c.clamped16.result c.negated.ensures.low c.negated.ensures.high c.clamped16.ensures.low c.clamped16.ensures.high
