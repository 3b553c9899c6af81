use Rattle.wm_hull.proofs.HullOps.{l_max_hull}
use Rattle.wm_hull.proofs.hulls.l_max.Goals as goal

pub returns : goal.returns
returns c = λ z. l_max_hull c.args.x c.args.y z c.greater.result c.greater.ensures.low c.greater.ensures.high
