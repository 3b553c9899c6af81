use Rattle.std.proofs.Common.{◌≡◌, [], drop}
use Rattle.wm_inputs.specs.Definitions.{definitions_from}
use Rattle.wm_inputs.proofs.places.definitions.Given as goal

abbrev pub invariant-loop-item : goal.invariant-loop-item
invariant-loop-item l = definitions_from (drop l.item-index l.unit.items) l.places ≡ definitions_from l.unit.items []
