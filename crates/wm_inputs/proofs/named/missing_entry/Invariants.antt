use Rattle.std.proofs.Common.{◌≡◌, drop}
use Rattle.wm_inputs.specs.Entries.{missing_entry}
use Rattle.wm_inputs.proofs.named.missing_entry.Given as goal

abbrev pub invariant-loop-name : goal.invariant-loop-name
invariant-loop-name l = missing_entry l.functions (drop l.name-index l.names) ≡ missing_entry l.functions l.names
