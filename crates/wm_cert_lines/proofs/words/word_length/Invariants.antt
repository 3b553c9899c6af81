use Rattle.std.proofs.Common.{◌≡◌, ◌+◌, drop}
use Rattle.wm_cert_lines.specs.Words.{word_length}
use Rattle.wm_cert_lines.proofs.words.word_length.Given as goal

abbrev pub invariant-loop-index : goal.invariant-loop-index
invariant-loop-index l = l.index + word_length (drop l.index l.line) ≡ word_length l.line
