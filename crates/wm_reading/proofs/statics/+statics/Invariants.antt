-- The count so far and the items that are left give that of all items.
use Rattle.std.proofs.Common.{◌≡◌, drop}
use Rattle.wm_source.specs.Pieces.{written_items}
use Rattle.wm_reading.specs.Statics.{statics_of}
use Rattle.wm_reading.proofs.statics.+statics.Given as goal

abbrev pub invariant-count_statics-loop-item : goal.invariant-count_statics-loop-item
invariant-count_statics-loop-item l =
    statics_of (written_items (drop l.item-index l.item-items)) l.count ≡ statics_of (written_items l.items) l.fn.count
