use Rattle.wm_hull.proofs.HullOps.{s_min_hull}
use Rattle.wm_hull.proofs.hulls.s_min.Goals as goal

pub returns : goal.returns
returns c = λ z. s_min_hull c.args.x c.args.y z c.lesser.result c.lesser.ensures.low c.lesser.ensures.high
