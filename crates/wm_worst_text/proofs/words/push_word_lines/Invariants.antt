use Rattle.std.proofs.Common.{◌≡◌, ◌++◌}
use Rattle.wm_worst_text.specs.Text.{word_lines}
use Rattle.wm_worst_text.proofs.words.push_word_lines.Given as goal

abbrev pub invariant-loop-number : goal.invariant-loop-number
invariant-loop-number l = l.text.items ≡ l.fn.text.items ++ word_lines l.edges l.weights l.choice l.number
