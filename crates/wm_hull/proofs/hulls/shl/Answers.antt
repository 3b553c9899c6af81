use Rattle.wm_hull.proofs.HullOps.{shl_hull}
use Rattle.wm_hull.proofs.hulls.shl.Goals as goal

pub returns : goal.returns
returns c = λ z. shl_hull c.args.x c.args.y z c.lefts.result (c.lefts.ensures z)
