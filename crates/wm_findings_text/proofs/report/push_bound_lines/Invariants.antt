use Rattle.std.proofs.Common.{◌≡◌, ◌++◌, ◌+◌, drop}
use Rattle.wm_findings_text.specs.Report.{bound_lines}
use Rattle.wm_findings_text.proofs.report.push_bound_lines.Given as goal

abbrev pub invariant-loop-k : goal.invariant-loop-k
invariant-loop-k l = l.text.items ++ bound_lines l.several l.bounds l.k (drop l.k l.names) ≡ l.fn.text.items ++ bound_lines l.several l.bounds 0 l.names
