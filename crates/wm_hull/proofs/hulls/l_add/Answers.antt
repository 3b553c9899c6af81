use Rattle.wm_hull.proofs.HullOps.{l_add_hull}
use Rattle.wm_hull.proofs.hulls.l_add.Goals as goal

pub returns : goal.returns
returns c = λ z. l_add_hull c.args.x c.args.y z c.add.result c.clamped32.result c.add.ensures.least c.clamped32.ensures.low c.clamped32.ensures.high
