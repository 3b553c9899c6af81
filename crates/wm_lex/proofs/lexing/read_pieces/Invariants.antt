-- The pieces that are left make of the state what all of them make of the state at the start.
use Rattle.std.proofs.Common.{◌≡◌, length}
use Rattle.std.specs.Vec.Iter.{into_iter_items, into_iter_len}
use Rattle.wm_lex.specs.Lines.{progress_of, after_pieces}
use Rattle.wm_lex.proofs.lexing.read_pieces.Given as goal

abbrev pub invariant-loop-piece : goal.invariant-loop-piece
invariant-loop-piece l = record {
  left : after_pieces (progress_of l.state) (into_iter_items l.piece-iterator) ≡ after_pieces (progress_of l.fn.state) l.fn.pieces.items;
  counted : into_iter_len l.piece-iterator ≡ length (into_iter_items l.piece-iterator);
}
