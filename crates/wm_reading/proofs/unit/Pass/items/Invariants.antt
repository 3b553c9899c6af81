-- The items that are left go on from what stands.
use Rattle.std.proofs.Common.{◌≡◌, drop}
use Rattle.wm_reading.specs.Reading.{items}
use Rattle.wm_reading.proofs.unit.Pass.items.Given as goal

abbrev pub invariant-loop-item : goal.invariant-loop-item
invariant-loop-item l = items l.offsets (drop l.item-index l.items) l.self ≡ items l.offsets l.items l.fn.self
