use Rattle.wm_hull.proofs.Spans.{range_first}
use Rattle.wm_hull.proofs.Failing.{tells_raised}
use Rattle.wm_hull.proofs.failures.roundings_leave.Goals as goal

pub returns : goal.returns
returns c = λ y z. tells_raised (λ a b d. a) c.args.x y z c.args.x (range_first c.args.x y z) c.rounding_leaves.result c.rounding_leaves.ensures
