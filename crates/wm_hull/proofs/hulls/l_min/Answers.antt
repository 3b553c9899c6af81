use Rattle.wm_hull.proofs.HullOps.{l_min_hull}
use Rattle.wm_hull.proofs.hulls.l_min.Goals as goal

pub returns : goal.returns
returns c = λ z. l_min_hull c.args.x c.args.y z c.lesser.result c.lesser.ensures.low c.lesser.ensures.high
