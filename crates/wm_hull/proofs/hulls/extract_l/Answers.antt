use Rattle.wm_hull.proofs.HullOps.{extract_l_hull}
use Rattle.wm_hull.proofs.hulls.extract_l.Goals as goal

pub returns : goal.returns
returns c = λ y z. extract_l_hull c.args.x y z c.lower_halves.result (c.lower_halves.ensures y z)
