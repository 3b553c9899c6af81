-- What is left of the marks gives what all of them give.
use Rattle.std.proofs.Common.{◌≡◌, drop}
use Rattle.wm_lex.specs.Punctuation.{pair_in}
use Rattle.wm_lex.proofs.punctuation.pair_in.Given as goal

abbrev pub invariant-loop-row : goal.invariant-loop-row
invariant-loop-row l = pair_in (drop l.row-index l.rows) l.first l.second ≡ pair_in l.rows l.first l.second
