use Rattle.std.proofs.Common.{◌≡◌, ◌++◌, ◌+◌, drop}
use Rattle.wm_findings_text.specs.Observed.{counted_lines}
use Rattle.wm_findings_text.proofs.observed.push_counted_lines.Given as goal

abbrev pub invariant-loop-k : goal.invariant-loop-k
invariant-loop-k l = l.text.items ++ counted_lines l.several l.counts l.bounds l.k (drop l.k l.names) ≡ l.fn.text.items ++ counted_lines l.several l.counts l.bounds 0 l.names
