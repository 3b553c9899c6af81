use Rattle.wm_hull.proofs.HullOps.{l_msu0_hull}
use Rattle.wm_hull.proofs.hulls.l_msu0.Goals as goal

pub returns : goal.returns
returns c = l_msu0_hull c.args.x c.args.y c.args.z c.products.result c.sub.result c.clamped32.result c.products.ensures.least c.sub.ensures.low c.sub.ensures.high c.clamped32.ensures.low c.clamped32.ensures.high
