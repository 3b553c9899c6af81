use Rattle.std.proofs.Common.{◌≡◌, [], drop}
use Rattle.wm_inputs.specs.Entries.{entries_from}
use Rattle.wm_inputs.proofs.named.entries.Given as goal

abbrev pub invariant-loop-name : goal.invariant-loop-name
invariant-loop-name l = entries_from l.functions (drop l.name-index l.names) l.numbers ≡ entries_from l.functions l.names []
