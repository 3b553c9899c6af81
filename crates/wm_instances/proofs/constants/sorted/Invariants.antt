use Rattle.std.proofs.Common.{◌≡◌, [], drop}
use Rattle.wm_instances.specs.Constants.{sorted_from}
use Rattle.wm_instances.proofs.constants.sorted.Given as goal

abbrev pub invariant-loop-number : goal.invariant-loop-number
invariant-loop-number l = sorted_from (drop l.number-index l.numbers) l.sorted.keys ≡ sorted_from l.numbers []
