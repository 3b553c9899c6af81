use Rattle.wm_hull.proofs.HullOps.{mult_hull}
use Rattle.wm_hull.proofs.hulls.mult.Goals as goal

pub returns : goal.returns
returns c = λ z. mult_hull c.args.x c.args.y z c.fractions.result c.clamped16.result c.fractions.ensures c.clamped16.ensures.low c.clamped16.ensures.high
