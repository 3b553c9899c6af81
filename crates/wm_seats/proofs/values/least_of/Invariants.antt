use Rattle.std.proofs.Common.{◌≡◌, drop}
use Rattle.wm_flow.specs.Seats.{least_of}
use Rattle.wm_seats.proofs.values.least_of.Given as goal

abbrev pub invariant-loop-value : goal.invariant-loop-value
invariant-loop-value l = least_of l.least (drop l.value-index l.values) ≡ least_of l.z l.values
