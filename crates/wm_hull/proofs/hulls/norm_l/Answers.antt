use Rattle.wm_hull.proofs.HullOps.{norm_l_hull}
use Rattle.wm_hull.proofs.hulls.norm_l.Goals as goal

pub returns : goal.returns
returns c = λ y z. norm_l_hull c.args.x y z c.norms.result (c.norms.ensures y z)
