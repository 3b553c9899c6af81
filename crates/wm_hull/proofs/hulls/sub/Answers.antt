use Rattle.wm_hull.proofs.HullOps.{sub_hull}
use Rattle.wm_hull.proofs.hulls.sub.Goals as goal

pub returns : goal.returns
returns c = λ z. sub_hull c.args.x c.args.y z c.sub.result c.clamped16.result c.sub.ensures.least c.clamped16.ensures.low c.clamped16.ensures.high
