use Rattle.std.proofs.Common.{◌≡◌, ◌+◌, ◌++◌, drop}
use Rattle.wm_cert_text.specs.Lines.{bound_lines}
use Rattle.wm_cert_text.proofs.lines.push_bounds.Given as goal

-- the lines so far, and those of what is left
abbrev pub invariant-loop-k : goal.invariant-loop-k
invariant-loop-k l = l.text.items ++ bound_lines (l.k + 1) (drop l.k l.bounds) ≡ l.fn.text.items ++ bound_lines 1 l.bounds
