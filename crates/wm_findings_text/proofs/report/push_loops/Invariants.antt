use Rattle.std.proofs.Common.{◌≡◌, ◌++◌, ◌+◌, drop}
use Rattle.wm_findings_text.specs.Report.{loop_lines}
use Rattle.wm_findings_text.proofs.report.push_loops.Given as goal

abbrev pub invariant-loop-k : goal.invariant-loop-k
invariant-loop-k l = l.text.items ++ loop_lines l.names l.found l.k (drop l.k l.loops) ≡ l.fn.text.items ++ loop_lines l.names l.found 0 l.loops
