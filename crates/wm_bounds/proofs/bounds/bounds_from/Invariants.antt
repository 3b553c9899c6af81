use Rattle.std.proofs.Common.{◌≡◌, ◌++◌, drop}
use Rattle.wm_bounds.specs.Bounds.{bounds_from}
use Rattle.wm_bounds.proofs.bounds.bounds_from.Given as goal

abbrev pub invariant-loop-part : goal.invariant-loop-part
invariant-loop-part l = l.bounds ++ bounds_from l.graph l.weights l.turns l.live l.stops (drop l.part-index l.parts) ≡ bounds_from l.graph l.weights l.turns l.live l.stops l.parts
