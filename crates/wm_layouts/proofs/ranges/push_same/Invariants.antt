use Rattle.std.proofs.Common.{◌≡◌, ◌++◌}
use Rattle.std.specs.Prelude.{replicate}
use Rattle.wm_flow.specs.Views.{range_of}
use Rattle.wm_layouts.specs.Ranges.{ranges_of}
use Rattle.wm_layouts.proofs.ranges.push_same.Given as goal

abbrev pub invariant-loop-k : goal.invariant-loop-k
invariant-loop-k l = ranges_of l.list ≡ ranges_of l.initial.list ++ replicate l.k (range_of l.range)
