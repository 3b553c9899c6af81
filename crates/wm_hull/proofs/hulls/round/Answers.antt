use Rattle.wm_hull.proofs.HullOps.{round_hull}
use Rattle.wm_hull.proofs.hulls.round.Goals as goal

pub returns : goal.returns
returns c = λ y z. round_hull c.args.x y z c.rounded.result c.rounded.ensures.low c.rounded.ensures.high
