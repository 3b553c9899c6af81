use Rattle.wm_hull.proofs.HullOps.{l_mac_hull}
use Rattle.wm_hull.proofs.hulls.l_mac.Goals as goal

pub returns : goal.returns
returns c = l_mac_hull c.args.x c.args.y c.args.z c.multiplied_to.result c.clamped32.result c.multiplied_to.ensures c.clamped32.ensures.low c.clamped32.ensures.high
