use Rattle.std.proofs.Common.{◌≡◌, take}
use Rattle.wm_paths_rows.proofs.headrooms.unproved.Given as goal

abbrev pub invariant-loop-one : goal.invariant-loop-one
invariant-loop-one l = l.all_boxes ≡ take l.one-index l.boxes
