-- What is left of the keys gives what all of them give.
use Rattle.std.proofs.Common.{◌≡◌, drop}
use Rattle.wm_lex.specs.Keys.{key_in}
use Rattle.wm_lex.proofs.key.key_in.Given as goal

abbrev pub invariant-loop-key : goal.invariant-loop-key
invariant-loop-key l = key_in (drop l.key-index l.keys) l.word ≡ key_in l.keys l.word
