use Rattle.wm_hull.proofs.HullOps.{mult_r_hull}
use Rattle.wm_hull.proofs.hulls.mult_r.Goals as goal

pub returns : goal.returns
returns c = λ z. mult_r_hull c.args.x c.args.y z c.rounded_fractions.result c.clamped16.result c.rounded_fractions.ensures c.clamped16.ensures.low c.clamped16.ensures.high
