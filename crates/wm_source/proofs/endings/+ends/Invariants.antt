-- The items that are left say how all of them end.
use Rattle.std.proofs.Common.{◌≡◌, drop, false}
use Rattle.wm_source.specs.Endings.{end_so}
use Rattle.wm_source.specs.Pieces.{written_items}
use Rattle.wm_source.proofs.endings.+ends.Given as goal

abbrev pub invariant-ends_in_return-loop-item : goal.invariant-ends_in_return-loop-item
invariant-ends_in_return-loop-item l = end_so l.ends (written_items (drop l.item-index l.item-items)) ≡ end_so false (written_items l.items)
