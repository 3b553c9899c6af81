use Rattle.std.proofs.Common.{arith, to_z, of_z, w64}
use Rattle.std.proofs.lemmas.Int.{ints}
use Rattle.wm_numbers.proofs.Floors.{floor_mono}
use Rattle.wm_headroom.proofs.shifted.Goals as goal

pub invariant_of-result : goal.invariant_of-result
invariant_of-result c =
    let low = c.floor_shift.ensures.value in
    let high = c.floor_shift-2.ensures.value in
    let order = floor_mono {a = to_z w64 (of_z w64 c.args.x.low)} {b = to_z w64 (of_z w64 c.args.x.high)} c.args.places (omega (arith, ints, c.args.x.ordered)) in
    record { ordered = omega (arith, ints, low, high, order) }
