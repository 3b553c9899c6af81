use Rattle.wm_hull.proofs.HullOps.{norm_s_hull}
use Rattle.wm_hull.proofs.hulls.norm_s.Goals as goal

pub returns : goal.returns
returns c = λ y z. norm_s_hull c.args.x y z c.norms.result (c.norms.ensures y z)
