-- The numbers so far and those of the items that are left are those of all items.
use Rattle.std.proofs.Common.{◌≡◌, drop}
use Rattle.wm_source.specs.Numbers.{numbers_of_items}
use Rattle.wm_source.proofs.numbers.+body.Given as goal

abbrev pub invariant-body_numbers-loop-item : goal.invariant-body_numbers-loop-item
invariant-body_numbers-loop-item l = numbers_of_items (drop l.item-index l.item-items) l.seen ≡ numbers_of_items l.items l.fn.seen
