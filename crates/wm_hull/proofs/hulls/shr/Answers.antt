use Rattle.wm_hull.proofs.HullOps.{shr_hull}
use Rattle.wm_hull.proofs.hulls.shr.Goals as goal

pub returns : goal.returns
returns c = λ z. shr_hull c.args.x c.args.y z c.rights.result (c.rights.ensures z)
