use Rattle.std.proofs.Common.{◌≡◌, drop}
use Rattle.wm_inputs.specs.Ranges.{bad_range}
use Rattle.wm_inputs.proofs.ranges.bad_range.Given as goal

abbrev pub invariant-loop-range : goal.invariant-loop-range
invariant-loop-range l = bad_range l.objects (drop l.range-index l.ranges) ≡ bad_range l.objects l.ranges
