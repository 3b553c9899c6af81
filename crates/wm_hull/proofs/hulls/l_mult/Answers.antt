use Rattle.wm_hull.proofs.HullOps.{l_mult_hull}
use Rattle.wm_hull.proofs.hulls.l_mult.Goals as goal

pub returns : goal.returns
returns c = λ z. l_mult_hull c.args.x c.args.y z c.doubled.result c.clamped32.result c.doubled.ensures c.clamped32.ensures.low c.clamped32.ensures.high
