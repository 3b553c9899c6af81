use Rattle.std.proofs.Common.{◌≡◌, take}
use Rattle.wm_tally.proofs.told.box_list.Given as goal

abbrev pub invariant-loop-range : goal.invariant-loop-range
invariant-loop-range l = l.list ≡ take l.range-index l.boxes
