use Rattle.std.proofs.Common.{◌≡◌, drop}
use Rattle.wm_flow.specs.Seats.{greatest_of}
use Rattle.wm_seats.proofs.values.greatest_of.Given as goal

abbrev pub invariant-loop-value : goal.invariant-loop-value
invariant-loop-value l = greatest_of l.greatest (drop l.value-index l.values) ≡ greatest_of l.z l.values
