use Rattle.std.proofs.Common.{◌≡◌, ◌++◌, drop}
use Rattle.wm_worst_text.specs.Text.{loop_lines}
use Rattle.wm_worst_text.proofs.words.push_loop_lines.Given as goal

abbrev pub invariant-loop-k : goal.invariant-loop-k
invariant-loop-k l = l.text.items ++ loop_lines l.choice l.k (drop l.k l.heads) ≡ l.fn.text.items ++ loop_lines l.choice 0 l.heads
