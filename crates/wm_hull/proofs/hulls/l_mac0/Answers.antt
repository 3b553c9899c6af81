use Rattle.wm_hull.proofs.HullOps.{l_mac0_hull}
use Rattle.wm_hull.proofs.hulls.l_mac0.Goals as goal

pub returns : goal.returns
returns c = l_mac0_hull c.args.x c.args.y c.args.z c.products.result c.add.result c.clamped32.result c.products.ensures.least c.add.ensures.low c.add.ensures.high c.clamped32.ensures.low c.clamped32.ensures.high
