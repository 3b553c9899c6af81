-- Those that are left go on from what stands.
use Rattle.std.proofs.Common.{◌≡◌, drop}
use Rattle.wm_reading.specs.Functions.{parameters}
use Rattle.wm_reading.proofs.function.parameters.Given as goal

abbrev pub invariant-loop-one : goal.invariant-loop-one
invariant-loop-one l = parameters l.views (drop l.one-index l.parameters) l.work ≡ parameters 0 l.parameters l.fn.work
