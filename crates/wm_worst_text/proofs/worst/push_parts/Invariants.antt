use Rattle.std.proofs.Common.{◌≡◌, ◌++◌, drop}
use Rattle.wm_findings_text.specs.Report.{is_several}
use Rattle.wm_worst_text.specs.Text.{parts}
use Rattle.wm_worst_text.proofs.worst.push_parts.Given as goal

abbrev pub invariant-loop-k : goal.invariant-loop-k
invariant-loop-k l = l.text.items ++ parts l.graph l.weights (is_several l.names) l.choices l.bounds l.k (drop l.k l.names) ≡ l.fn.text.items ++ parts l.graph l.weights (is_several l.names) l.choices l.bounds 0 l.names
