use Rattle.wm_hull.proofs.HullOps.{add_hull}
use Rattle.wm_hull.proofs.hulls.add.Goals as goal

pub returns : goal.returns
returns c = λ z. add_hull c.args.x c.args.y z c.add.result c.clamped16.result c.add.ensures.least c.clamped16.ensures.low c.clamped16.ensures.high
