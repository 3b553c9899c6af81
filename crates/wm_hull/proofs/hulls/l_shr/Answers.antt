use Rattle.wm_hull.proofs.HullOps.{l_shr_hull}
use Rattle.wm_hull.proofs.hulls.l_shr.Goals as goal

pub returns : goal.returns
returns c = λ z. l_shr_hull c.args.x c.args.y z c.rights.result (c.rights.ensures z)
