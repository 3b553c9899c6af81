use Rattle.wm_hull.proofs.HullOps.{l_deposit_l_hull}
use Rattle.wm_hull.proofs.hulls.l_deposit_l.Goals as goal

pub returns : goal.returns
returns c = λ y z. l_deposit_l_hull c.args.x y z
