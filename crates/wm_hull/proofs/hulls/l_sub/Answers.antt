use Rattle.wm_hull.proofs.HullOps.{l_sub_hull}
use Rattle.wm_hull.proofs.hulls.l_sub.Goals as goal

pub returns : goal.returns
returns c = λ z. l_sub_hull c.args.x c.args.y z c.sub.result c.clamped32.result c.sub.ensures.least c.clamped32.ensures.low c.clamped32.ensures.high
