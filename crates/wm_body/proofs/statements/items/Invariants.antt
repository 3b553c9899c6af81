-- What is left is read behind what was found, as all is.
use Rattle.std.proofs.Common.{◌≡◌, drop, []}
use Rattle.wm_source.specs.Pieces.{written_items}
use Rattle.wm_body.specs.Statements.{pieces_in}
use Rattle.wm_body.proofs.statements.items.Given as goal

abbrev pub invariant-loop-item : goal.invariant-loop-item
invariant-loop-item l =
    pieces_in l.depth l.found (written_items (drop l.item-index l.item-items)) l.work ≡ pieces_in l.depth [] (written_items l.items) l.fn.work
