use Rattle.std.proofs.Common.{◌≡◌, ◌++◌, drop}
use Rattle.wm_middle.proofs.shapes.same_ranges.Given as goal

abbrev pub invariant-loop-r : goal.invariant-loop-r
invariant-loop-r l = l.list ++ drop l.r-index l.ranges ≡ l.ranges
