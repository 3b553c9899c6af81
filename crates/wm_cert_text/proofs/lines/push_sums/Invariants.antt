use Rattle.std.proofs.Common.{◌≡◌, ◌++◌, drop}
use Rattle.wm_cert_text.specs.Lines.{sum_lines}
use Rattle.wm_cert_text.proofs.lines.push_sums.Given as goal

abbrev pub invariant-loop-sum : goal.invariant-loop-sum
invariant-loop-sum l = l.text.items ++ sum_lines (drop l.sum-index l.sums) ≡ l.fn.text.items ++ sum_lines l.sums
