use Rattle.wm_hull.proofs.HullOps.{extract_h_hull}
use Rattle.wm_hull.proofs.hulls.extract_h.Goals as goal

pub returns : goal.returns
returns c = λ y z. extract_h_hull c.args.x y z c.floored.result c.floored.ensures.low c.floored.ensures.high
