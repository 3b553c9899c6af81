use Rattle.wm_hull.proofs.HullOps.{s_max_hull}
use Rattle.wm_hull.proofs.hulls.s_max.Goals as goal

pub returns : goal.returns
returns c = λ z. s_max_hull c.args.x c.args.y z c.greater.result c.greater.ensures.low c.greater.ensures.high
