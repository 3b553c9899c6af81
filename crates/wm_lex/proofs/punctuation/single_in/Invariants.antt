-- What is left of the marks gives what all of them give.
use Rattle.std.proofs.Common.{◌≡◌, drop}
use Rattle.wm_lex.specs.Punctuation.{single_in}
use Rattle.wm_lex.proofs.punctuation.single_in.Given as goal

abbrev pub invariant-loop-row : goal.invariant-loop-row
invariant-loop-row l = single_in (drop l.row-index l.rows) l.byte ≡ single_in l.rows l.byte
