-- For callers: where the new value of a variable lies, from where the old one of another lies.
use Rattle.std.proofs.Common.{ℕ, ◌+◌, ◌*◌, ℤ, ◌+ℤ◌, neg_ℤ, refl, arith}
use Rattle.std.proofs.lemmas.Int.{ints}
use Rattle.wm_numbers.specs.Within.{Within}
use Rattle.wm_octagon.specs.View.{OctagonView, Holds}
use Rattle.wm_octagon.specs.Sides.{IsRangeOf}
use Rattle.wm_octagon.specs.Assigning.{AssignedOf}
use Rattle.wm_octagon.proofs.Moves.{side_plus, side_minus}

-- at each point a variable lies in its range
pub value_in : (o : OctagonView) (v : ℕ) (low high : ℤ) → IsRangeOf o v low high → (x : ℕ → ℤ) → Holds o x → Within low high (x v)
value_in o v low high r x p = record {
  above = r.least.least (x v) (record { x = x; point = p; gives = refl });
  below = r.greatest.greatest (x v) (record { x = x; point = p; gives = refl });
}

-- a variable that gets the value of variable w, which lies between a and b, and a number between two ends
pub assigned_plus : (o : OctagonView) (v w : ℕ) (low high a b : ℤ) → ((x : ℕ → ℤ) → Holds o x → Within a b (x w)) → (x : ℕ → ℤ) → AssignedOf o v (2 * w) low high x → Within (a +ℤ low) (b +ℤ high) (x v)
assigned_plus o v w low high a b all x p =
    let i = all p.was p.point in
    let i1 = i.above in
    let i2 = i.below in
    let m1 = p.more_in.above in
    let m2 = p.more_in.below in
    let e = p.value in
    let s = side_plus p.was w in
    record { above = omega (arith, ints); below = omega (arith, ints) }

-- the same with the negative of w
pub assigned_minus : (o : OctagonView) (v w : ℕ) (low high a b : ℤ) → ((x : ℕ → ℤ) → Holds o x → Within a b (x w)) → (x : ℕ → ℤ) → AssignedOf o v (2 * w + 1) low high x → Within (neg_ℤ b +ℤ low) (neg_ℤ a +ℤ high) (x v)
assigned_minus o v w low high a b all x p =
    let i = all p.was p.point in
    let i1 = i.above in
    let i2 = i.below in
    let m1 = p.more_in.above in
    let m2 = p.more_in.below in
    let e = p.value in
    let s = side_minus p.was w in
    record { above = omega (arith, ints); below = omega (arith, ints) }
