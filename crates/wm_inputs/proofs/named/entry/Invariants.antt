use Rattle.std.proofs.Common.{◌≡◌, drop}
use Rattle.wm_inputs.specs.Entries.{entry_from}
use Rattle.wm_inputs.proofs.named.entry.Given as goal

abbrev pub invariant-loop-k : goal.invariant-loop-k
invariant-loop-k l = entry_from l.k l.word (drop l.k l.functions) ≡ entry_from 0 l.word l.functions
