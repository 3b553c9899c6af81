use Rattle.wm_hull.proofs.HullOps.{shr_r_hull}
use Rattle.wm_hull.proofs.hulls.shr_r.Goals as goal

pub returns : goal.returns
returns c = λ z. shr_r_hull c.args.x c.args.y z c.rights.result (c.rights.ensures z)
