use Rattle.std.proofs.Common.{◌≡◌, ◌++◌, ◌+◌, drop}
use Rattle.wm_findings_text.specs.Report.{state_lines}
use Rattle.wm_findings_text.proofs.report.push_states.Given as goal

abbrev pub invariant-loop-k : goal.invariant-loop-k
invariant-loop-k l = l.text.items ++ state_lines l.objects (l.k + 1) (drop l.k l.lines) ≡ l.fn.text.items ++ state_lines l.objects 1 l.lines
