-- New values of small variables are small.
use Rattle.std.proofs.Common.{◌≡◌, ◌≤ℤ◌, ℕ, ◌+◌, ◌*◌, ℤ, pos, negsuc, Bool, true, false, cond, arith, subst, to_z, of_z, w64}
use Rattle.std.proofs.lemmas.Int.{ints}
use Rattle.wm_numbers.specs.Within.{Within}
use Rattle.wm_octagon.specs.View.{OctagonView}
use Rattle.wm_octagon.specs.Sides.{IsRangeOf}
use Rattle.wm_octagon.specs.Assigning.{AssignedOf}
use Rattle.wm_octagon.proofs.Fits.{value_in, assigned_plus, assigned_minus}
use Rattle.wm_enumerate.specs.Drawn.{IsTiny, IsLowAt}

pub fits : (o : OctagonView) (v w : ℕ) (low high : ℤ) → IsLowAt o w → IsTiny low → IsTiny high → (x : ℕ → ℤ) → AssignedOf o v (2 * w) low high x → Within (negsuc 1099511627774) (pos 1099511627775) (x v)
fits o v w low high l tl th x p =
    let i = assigned_plus o v w low high (negsuc 999) (pos 1000) l.each x p in
    let a = i.above in
    let b = i.below in
    let c = tl.above in
    let d = th.below in
    record { above = omega (arith, ints); below = omega (arith, ints) }

pub shift_fits : (o : OctagonView) (v : ℕ) (negate : Bool) (c : ℤ) → IsLowAt o v → IsTiny c → (x : ℕ → ℤ) → AssignedOf o v (2 * v + cond negate 1 0) c c x → Within (negsuc 1099511627774) (pos 1099511627775) (x v)
shift_fits o v false c l t x p = let e : 2 * v + 0 ≡ 2 * v = omega arith in fits o v v c c l t t x (subst (λ k. AssignedOf o v k c c x) e p)
shift_fits o v true c l t x p =
    let i = assigned_minus o v v c c (negsuc 999) (pos 1000) l.each x p in
    let a = i.above in
    let b = i.below in
    let d = t.above in
    let e = t.below in
    record { above = omega (arith, ints); below = omega (arith, ints) }

pub low_of_range : (o : OctagonView) (v : ℕ) (low high : ℤ) → IsRangeOf o v low high → (negsuc 999 ≤ℤ low) × (high ≤ℤ pos 1000) → IsLowAt o v
low_of_range o v low high r e = record {
  each = λ x p.
      let i = value_in o v low high r x p in
      let a = i.above in
      let b = i.below in
      let c = e.0 in
      let d = e.1 in
      record { above = omega (arith, ints); below = omega (arith, ints) };
}

pub tiny_read : (z : ℤ) → IsTiny z → to_z w64 (of_z w64 z) ≡ z
tiny_read z t = let a = t.above in let b = t.below in omega (arith, ints)
