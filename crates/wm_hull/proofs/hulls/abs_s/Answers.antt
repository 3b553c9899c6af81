use Rattle.wm_hull.proofs.HullOps.{abs_s_hull}
use Rattle.wm_hull.proofs.hulls.abs_s.Goals as goal

pub returns : goal.returns
returns c = λ y z. abs_s_hull c.args.x y z c.sizes.result c.clamped16.result (c.sizes.ensures y z) c.clamped16.ensures.low c.clamped16.ensures.high
