-- The slots so far and those of the parameters that are left are all.
use Rattle.std.proofs.Common.{◌≡◌, drop, ◌++◌}
use Rattle.wm_reading.specs.Outlines.{slots_of}
use Rattle.wm_reading.proofs.outline.slots_of.Given as goal

abbrev pub invariant-loop-parameter : goal.invariant-loop-parameter
invariant-loop-parameter l = l.slots ++ slots_of (drop l.parameter-index l.parameters) ≡ slots_of l.parameters
