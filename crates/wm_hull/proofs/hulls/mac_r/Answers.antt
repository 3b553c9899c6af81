use Rattle.wm_hull.proofs.HullOps.{mac_r_hull}
use Rattle.wm_hull.proofs.hulls.mac_r.Goals as goal

pub returns : goal.returns
returns c = mac_r_hull c.args.x c.args.y c.args.z c.multiplied_to.result c.clamped32.result c.rounded.result c.multiplied_to.ensures c.clamped32.ensures.low c.clamped32.ensures.high c.rounded.ensures.low c.rounded.ensures.high
