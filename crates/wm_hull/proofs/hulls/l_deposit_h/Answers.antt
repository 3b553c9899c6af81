use Rattle.wm_hull.proofs.HullOps.{l_deposit_h_hull}
use Rattle.wm_hull.proofs.hulls.l_deposit_h.Goals as goal

pub returns : goal.returns
returns c = λ y z. l_deposit_h_hull c.args.x y z c.scaled.result c.scaled.ensures.low c.scaled.ensures.high
