-- How many of the first so many locals are arrays.
use Rattle.std.proofs.Common.{◌≡◌, ℕ, zero, suc, ◌+◌, ◌-◌, List, [], ◌∷◌, refl, ap, arith}
use Rattle.wm_flow.specs.declared.seats.LocalSeat.{LocalSeat}
use Rattle.wm_flow.specs.declared.seats.LocalSeat.TheVariants as local_seat
use Rattle.wm_flow.specs.Calls.{addressed_among}
use Rattle.wm_crossings.specs.Arrays.{array_count}

pub among_none : (seats : List LocalSeat) (left : ℕ) → left ≡ 0 → addressed_among seats left ≡ 0
among_none [] left h = refl
among_none (seat ∷ rest) zero h = refl
among_none (seat ∷ rest) (suc left) h = absurd (omega arith)

pub among_one : (seat : LocalSeat) (rest : List LocalSeat) (left : ℕ) → (left ≡ 0 → ⊥) → addressed_among (seat ∷ rest) left ≡ array_count seat + addressed_among rest (left - 1)
among_one seat rest zero h = absurd (h refl)
among_one (local_seat.Scalar k) rest (suc left) h =
    let e : left ≡ suc left - 1 = omega arith in
    let m : addressed_among rest left ≡ addressed_among rest (suc left - 1) = ap (addressed_among rest) e in
    omega arith
among_one (local_seat.Array k) rest (suc left) h =
    let e : left ≡ suc left - 1 = omega arith in
    let m : addressed_among rest left ≡ addressed_among rest (suc left - 1) = ap (addressed_among rest) e in
    omega arith
