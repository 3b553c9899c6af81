-- The one quotient of numbers of 32 bits that is out of them.
use Rattle.std.proofs.Common.{◌≡◌, ◌⊎◌, ⊎_elim, refl, sym, subst, ap, inr, ℕ, zero, suc, ◌*◌, ◌/◌, ◌<◌, ◌≤◌, ℤ, pos, negsuc, ◌<ℤ◌, Bool, true, int_div, div-le_self, arith}
use Rattle.std.proofs.lemmas.Int.{ints}
use Rattle.std.proofs.Math.Nat.{div-mul-le_self}
use Rattle.wm_numbers.specs.Within.{IsWord32}
use Rattle.wm_numbers.proofs.Order.{le_trans}
use Rattle.wm_ops.specs.Clamping.{leaves32}
use Rattle.wm_interval.specs.declared.Interval.{Interval}
use Rattle.wm_interval.specs.Holds.{Holds}
use Rattle.wm_hull.specs.Boxes.{zero_box}
use Rattle.wm_hull.specs.Failures.{Nowhere, IsFirst}
use Rattle.wm_hull.specs.Ranges.{IsBox32}

twice : (q d : ℕ) → q * 2 ≤ q * suc (suc d)
twice q d = omega arith

halved : (a d : ℕ) → ((suc a) / (suc (suc d))) * 2 ≤ suc a
halved a d = omega (arith, twice ((suc a) / (suc (suc d))) d, div-mul-le_self (suc a) (suc (suc d)))

low_numerator : (a d : ℕ) → a ≤ 2147483647 → 2147483647 < (suc a) / (suc d) → a ≡ 2147483647
low_numerator a d h k = omega (arith, div-le_self (suc a) (suc d), h, k)

low_divisor : (a d : ℕ) → a ≤ 2147483647 → 2147483647 < (suc a) / (suc d) → d ≡ 0
low_divisor a zero h k = refl
low_divisor a (suc d) h k = absurd (omega (arith, halved a d, h, k))

leaving : (z : ℤ) → leaves32 z ≡ true → (z <ℤ negsuc 2147483647) ⊎ (pos 2147483647 <ℤ z)
unfolding leaves32
leaving z e = grind (arith, ints)

large : (n : ℕ) → leaves32 (pos n) ≡ true → 2147483647 < n
large n e = ⊎_elim (λ h. absurd (omega (arith, ints))) (λ h. omega (arith, ints)) (leaving (pos n) e)

quotient_numerator : (a b : ℤ) → IsWord32 a → leaves32 (int_div a b) ≡ true → a ≡ negsuc 2147483647
quotient_numerator (pos a) (pos d) w e = ⊎_elim (λ h. absurd (omega (arith, ints))) (λ h. let u = w.below in absurd (omega (arith, ints, div-le_self a d))) (leaving (int_div (pos a) (pos d)) e)
quotient_numerator (pos a) (negsuc d) w e = ⊎_elim (λ h. let u = w.below in absurd (omega (arith, ints, div-le_self a (suc d)))) (λ h. absurd (omega (arith, ints))) (leaving (int_div (pos a) (negsuc d)) e)
quotient_numerator (negsuc a) (pos d) w e = ⊎_elim (λ h. let u = w.above in absurd (omega (arith, ints, div-le_self (suc a) d))) (λ h. absurd (omega (arith, ints))) (leaving (int_div (negsuc a) (pos d)) e)
quotient_numerator (negsuc a) (negsuc d) w e =
    let u = w.above in
    let h : a ≤ 2147483647 = omega (arith, ints) in
    ap negsuc (low_numerator a d h (large ((suc a) / (suc d)) e))

quotient_divisor : (a b : ℤ) → IsWord32 a → leaves32 (int_div a b) ≡ true → b ≡ negsuc 0
quotient_divisor (pos a) b w e = let k = quotient_numerator (pos a) b w e in absurd (omega (arith, ints))
quotient_divisor (negsuc a) (pos d) w e = ⊎_elim (λ h. let u = w.above in absurd (omega (arith, ints, div-le_self (suc a) d))) (λ h. absurd (omega (arith, ints))) (leaving (int_div (negsuc a) (pos d)) e)
quotient_divisor (negsuc a) (negsuc d) w e =
    let u = w.above in
    let h : a ≤ 2147483647 = omega (arith, ints) in
    ap negsuc (low_divisor a d h (large ((suc a) / (suc d)) e))

word_in : (x : Interval) (z : ℤ) → IsBox32 x → Holds x z → IsWord32 z
word_in x z h k = record { above = le_trans h.low_in.above k.above; below = le_trans k.below h.high_in.below }

abbrev quotient_leaves : ℤ → ℤ → ℤ → Bool
quotient_leaves a b c = leaves32 (int_div a b)

pub no_quotient : (x y : Interval) → IsBox32 x → (Holds x (negsuc 2147483647) → Holds y (negsuc 0) → ⊥) → Nowhere quotient_leaves x y zero_box
no_quotient x y h none a b c inside e =
    let w = word_in x a h inside.first in
    none (subst (λ z. Holds x z) (quotient_numerator a b w e) inside.first) (subst (λ z. Holds y z) (quotient_divisor a b w e) inside.second)

pub one_quotient : (x y : Interval) → IsBox32 x → Holds x (negsuc 2147483647) → Holds y (negsuc 0) → IsFirst quotient_leaves x y zero_box (negsuc 2147483647) (negsuc 0) (pos 0)
unfolding leaves32
one_quotient x y h first second = record {
  inside = record { first = first; second = second; third = record { above = omega (arith, ints); below = omega (arith, ints) } };
  holds = refl;
  before = λ d e f within u.
      let w = word_in x d h within.first in
      inr (sym (quotient_numerator d e w u), inr (sym (quotient_divisor d e w u), within.third.above));
}
