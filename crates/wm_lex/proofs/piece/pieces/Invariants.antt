-- The pieces so far, and those of the characters that are left.
use Rattle.std.proofs.Common.{◌≡◌, ◌++◌, length}
use Rattle.wm_lex.specs.Pieces.{pieces_from, pieces}
use Rattle.wm_lex.proofs.piece.pieces.Given as goal

abbrev pub invariant-loop-first : goal.invariant-loop-first
invariant-loop-first l = l.found.items ++ pieces_from l.file l.spaced 0 l.left ≡ pieces l.file l.line

abbrev pub decreases-loop-first : goal.decreases-loop-first
decreases-loop-first l = length l.left
