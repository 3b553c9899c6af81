use Rattle.std.proofs.Common.{◌≡◌, ◌++◌, ◌+◌, drop}
use Rattle.wm_findings_text.specs.Report.{rate_lines}
use Rattle.wm_findings_text.proofs.report.push_rate_lines.Given as goal

abbrev pub invariant-loop-k : goal.invariant-loop-k
invariant-loop-k l = l.text.items ++ rate_lines l.us l.several l.bounds l.k (drop l.k l.names) ≡ l.fn.text.items ++ rate_lines l.us l.several l.bounds 0 l.names
