use Rattle.std.proofs.Common.{◌≡◌, drop}
use Rattle.wm_inputs.specs.Ranges.{range_named}
use Rattle.wm_inputs.proofs.ranges.range_named.Given as goal

abbrev pub invariant-loop-range : goal.invariant-loop-range
invariant-loop-range l = range_named (drop l.range-index l.ranges) l.word ≡ range_named l.ranges l.word
