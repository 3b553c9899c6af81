-- The items that are left go on from what stands.
use Rattle.std.proofs.Common.{◌≡◌, drop}
use Rattle.wm_reading.specs.Outlines.{items}
use Rattle.wm_reading.proofs.outline.Outline.items.Given as goal

abbrev pub invariant-loop-item : goal.invariant-loop-item
invariant-loop-item l = items (drop l.item-index l.items) l.self ≡ items l.items l.fn.self
