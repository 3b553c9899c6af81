use Rattle.std.proofs.Common.{◌≡◌, ◌++◌, ◌+◌, drop}
use Rattle.wm_findings_text.specs.Observed.{seen_lines}
use Rattle.wm_findings_text.proofs.observed.push_seen_lines.Given as goal

abbrev pub invariant-loop-k : goal.invariant-loop-k
invariant-loop-k l = l.text.items ++ seen_lines l.objects l.seen l.k (drop l.k l.lines) ≡ l.fn.text.items ++ seen_lines l.objects l.seen 0 l.lines
