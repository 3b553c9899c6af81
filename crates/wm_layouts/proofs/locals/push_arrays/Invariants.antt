use Rattle.std.proofs.Common.{◌≡◌, ◌++◌, drop}
use Rattle.wm_flow.specs.Layouts.{array_ranges}
use Rattle.wm_layouts.specs.Ranges.{ranges_of}
use Rattle.wm_layouts.proofs.locals.push_arrays.Given as goal

abbrev pub invariant-loop-local : goal.invariant-loop-local
invariant-loop-local l = ranges_of l.list ++ array_ranges (drop l.local-index l.locals) ≡ ranges_of l.initial.list ++ array_ranges l.locals
