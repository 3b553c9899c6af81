-- What is left of the words gives what all of them give.
use Rattle.std.proofs.Common.{◌≡◌, drop}
use Rattle.wm_ops.specs.Names.{first_word}
use Rattle.wm_ops.proofs.search.word_in.Given as goal

abbrev pub invariant-loop-word : goal.invariant-loop-word
invariant-loop-word l = first_word (drop l.word-index l.words) l.bytes ≡ first_word l.words l.bytes
