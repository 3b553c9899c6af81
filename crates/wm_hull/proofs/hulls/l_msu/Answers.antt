use Rattle.wm_hull.proofs.HullOps.{l_msu_hull}
use Rattle.wm_hull.proofs.hulls.l_msu.Goals as goal

pub returns : goal.returns
returns c = l_msu_hull c.args.x c.args.y c.args.z c.multiplied_from.result c.clamped32.result c.multiplied_from.ensures c.clamped32.ensures.low c.clamped32.ensures.high
