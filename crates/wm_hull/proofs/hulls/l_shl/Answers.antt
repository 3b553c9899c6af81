use Rattle.wm_hull.proofs.HullOps.{l_shl_hull}
use Rattle.wm_hull.proofs.hulls.l_shl.Goals as goal

pub returns : goal.returns
returns c = λ z. l_shl_hull c.args.x c.args.y z c.lefts.result (c.lefts.ensures z)
