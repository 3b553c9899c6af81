use Rattle.std.proofs.Common.{sym, w64, FitsSigned, ◌≤ℤ◌, rules}
use Rattle.std.proofs.lemmas.Int.{to_z-of_z}
use Rattle.wm_numbers.proofs.Floors.{floor_mono}
use Rattle.wm_numbers.proofs.Order.{le_trans, le_of_eq}
use Rattle.wm_hull.proofs.ranges.floored.Goals as goal

pub new-requires : goal.new-requires
new-requires c =
    let low_fits : FitsSigned w64 c.args.range.low = search rules in
    let high_fits : FitsSigned w64 c.args.range.high = search rules in
    let first_fits : FitsSigned w64 c.floor_shift.result = search rules in
    let second_fits : FitsSigned w64 c.floor_shift-2.result = search rules in
    let low = simp to_z-of_z at c.floor_shift.ensures.value in
    let high = simp to_z-of_z at c.floor_shift-2.ensures.value in
    let ordered : c.floor_shift.result ≤ℤ c.floor_shift-2.result = le_trans (le_of_eq low) (le_trans (floor_mono c.args.places c.args.range.ordered) (le_of_eq (sym high))) in
    simp to_z-of_z ordered
