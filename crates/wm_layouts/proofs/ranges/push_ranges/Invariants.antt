use Rattle.std.proofs.Common.{◌≡◌, ◌++◌, drop}
use Rattle.wm_layouts.specs.Ranges.{ranges_of}
use Rattle.wm_layouts.proofs.ranges.push_ranges.Given as goal

abbrev pub invariant-loop-range : goal.invariant-loop-range
invariant-loop-range l = ranges_of l.list ++ ranges_of (drop l.range-index l.more) ≡ ranges_of l.initial.list ++ ranges_of l.more
