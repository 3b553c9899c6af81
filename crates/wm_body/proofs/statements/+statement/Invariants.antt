-- What is left is read behind what was found, as all is in the scope of the block.
use Rattle.std.proofs.Common.{◌≡◌, drop, []}
use Rattle.wm_source.specs.Pieces.{written_items}
use Rattle.wm_body.specs.Statements.{pieces_in}
use Rattle.wm_body.specs.Works.{entered}
use Rattle.wm_body.proofs.statements.+statement.Given as goal

abbrev pub invariant-block_of-loop-item : goal.invariant-block_of-loop-item
invariant-block_of-loop-item l =
    pieces_in l.depth l.found (written_items (drop l.item-index l.item-items)) l.work ≡ pieces_in l.depth [] (written_items l.items) (entered l.fn.work)
