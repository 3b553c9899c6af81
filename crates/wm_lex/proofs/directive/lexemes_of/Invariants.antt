-- The lexemes so far, and those of the pieces that are left.
use Rattle.std.proofs.Common.{◌≡◌, ◌++◌, drop, Ok}
use Rattle.wm_lex.specs.Answers.{◌>>=◌}
use Rattle.wm_lex.specs.Lines.{lexemes_of}
use Rattle.wm_lex.proofs.directive.lexemes_of.Given as goal

abbrev pub invariant-loop-piece : goal.invariant-loop-piece
invariant-loop-piece l = (lexemes_of (drop l.piece-index l.pieces) >>= λ more. Ok (l.lexemes.items ++ more)) ≡ lexemes_of l.pieces
