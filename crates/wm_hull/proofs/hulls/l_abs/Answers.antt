use Rattle.wm_hull.proofs.HullOps.{l_abs_hull}
use Rattle.wm_hull.proofs.hulls.l_abs.Goals as goal

pub returns : goal.returns
returns c = λ y z. l_abs_hull c.args.x y z c.sizes.result c.clamped32.result (c.sizes.ensures y z) c.clamped32.ensures.low c.clamped32.ensures.high
