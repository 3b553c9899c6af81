use Rattle.std.proofs.Common.{◌-ℤ◌, nat_abs}
use Rattle.wm_ops.specs.Outcomes.{fails_of}
use Rattle.wm_hull.specs.Searches.{SearchedSecond}
use Rattle.wm_hull.proofs.first.search_second.Given as goal

abbrev pub invariant-loop-left : goal.invariant-loop-left
invariant-loop-left l = SearchedSecond (fails_of l.op) l.x l.fn.y l.z l.left

abbrev pub decreases-loop-left : goal.decreases-loop-left
decreases-loop-left l = nat_abs (l.left.high -ℤ l.left.low)
