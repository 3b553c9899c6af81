use Rattle.std.proofs.Common.{◌≡◌, take}
use Rattle.wm_observe.proofs.observing.listed_counts.Given as goal

abbrev pub invariant-loop-item : goal.invariant-loop-item
invariant-loop-item l = l.list ≡ take l.item-index l.items
