use Rattle.std.proofs.Common.{◌≡◌, [], drop}
use Rattle.wm_instances.specs.Constants.{numbers_from}
use Rattle.wm_instances.proofs.constants.all_numbers.Given as goal

abbrev pub invariant-loop-item : goal.invariant-loop-item
invariant-loop-item l = numbers_from (drop l.item-index l.unit.items) l.seen ≡ numbers_from l.unit.items []
