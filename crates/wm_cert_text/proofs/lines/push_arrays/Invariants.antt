use Rattle.std.proofs.Common.{◌≡◌, ◌+◌, ◌++◌, drop}
use Rattle.wm_cert_text.specs.Lines.{array_lines}
use Rattle.wm_cert_text.proofs.lines.push_arrays.Given as goal

abbrev pub invariant-loop-k : goal.invariant-loop-k
invariant-loop-k l = l.text.items ++ array_lines (l.k + 1) (drop l.k l.arrays) ≡ l.fn.text.items ++ array_lines 1 l.arrays
