-- The lexemes and pieces that are left are the same where all of them are.
use Rattle.std.proofs.Common.{◌≡◌, length, drop}
use Rattle.wm_lex.specs.Lines.{are_lexemes}
use Rattle.wm_lex.proofs.directive.are_lexemes.Given as goal

abbrev pub invariant-loop-index : goal.invariant-loop-index
invariant-loop-index l = record {
  left : are_lexemes (drop l.index l.lexemes) (drop l.index l.pieces) ≡ are_lexemes l.lexemes l.pieces;
  counted : length l.lexemes ≡ length l.pieces;
}
