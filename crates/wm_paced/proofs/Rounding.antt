-- Numbers of turns, rounded up and down, and sums after them.
use Rattle.std.proofs.Common.{◌≡◌, ◌⊎◌, inl, inr, ℕ, zero, suc, ◌*◌, ◌/◌, ◌<◌, ◌≤◌, ◌^◌, ℤ, pos, negsuc, neg_ℤ, ◌+ℤ◌, ◌*ℤ◌, ◌≤ℤ◌, ◌<ℤ◌, unsigned_abs, refl, sym, subst, ◌∙◌, w64, div-le_self, arith}
use Rattle.std.specs.Prelude.{FitsSigned}
use Rattle.std.specs.Int.{int_div_euclid, int_min}
use Rattle.std.proofs.lemmas.Int.{ints, fits_signed_mul}
use Rattle.wm_numbers.specs.Within.{IsWord32}
use Rattle.wm_numbers.proofs.Order.{min_cases, le_or_lt}
use Rattle.wm_step.specs.Images.{most}

pub down_low : (z : ℤ) (k : ℕ) → negsuc 2147483647 ≤ℤ z → negsuc 2147483647 ≤ℤ int_div_euclid z (pos k)
down_low (pos a) k h = omega (arith, ints)
down_low (negsuc a) k h = omega (arith, ints, h, div-le_self a k)

pub down_high : (z : ℤ) (k : ℕ) → z ≤ℤ most → int_div_euclid z (pos k) ≤ℤ most
down_high (pos a) k h = omega (arith, ints, h, div-le_self a k)
down_high (negsuc a) k h = omega (arith, ints)

pub up_low : (z : ℤ) (k : ℕ) → negsuc 2147483647 ≤ℤ z → negsuc 2147483647 ≤ℤ neg_ℤ (int_div_euclid (neg_ℤ z) (pos k))
up_low (pos zero) k h = omega (arith, ints, div-le_self 0 k)
up_low (pos (suc a)) k h = omega (arith, ints)
up_low (negsuc a) k h = omega (arith, ints, h, div-le_self (suc a) k)

pub up_high : (z : ℤ) (k : ℕ) → z ≤ℤ most → neg_ℤ (int_div_euclid (neg_ℤ z) (pos k)) ≤ℤ most
up_high (pos zero) k h = omega (arith, ints)
up_high (pos (suc a)) k h = omega (arith, ints, h, div-le_self a k)
up_high (negsuc a) k h = omega (arith, ints)

size : (z : ℤ) → negsuc 2147483647 ≤ℤ z → z ≤ℤ most → unsigned_abs z ≤ 2147483648
size z h k = omega (arith, ints, h, k)

pub product_fits : (turns : ℤ) (step : ℕ) → step < 2 ^ 32 → negsuc 2147483647 ≤ℤ turns → turns ≤ℤ most → FitsSigned w64 (pos step *ℤ turns)
product_fits turns step hs h k = fits_signed_mul w64 (pos step) turns 4294967295 2147483648 (omega (arith, hs)) (size turns h k) (omega arith)

pub least_high : (x : ℤ) → int_min most x ≤ℤ most
least_high x = elim (min_cases most x) [
  | inl e ↦ omega (arith, ints, e.0, e.1)
  | inr e ↦ omega (arith, ints, e.0, e.1)
]

-- ---- a sum and what stands for it where it is below 32 bits

module _ (x r z : ℤ) (same : negsuc 2147483648 ≤ℤ x → r ≡ x) (past : x <ℤ negsuc 2147483648 → r ≡ negsuc 2147483648) where
  pub to_least : IsWord32 z → x ≤ℤ z → r ≤ℤ ((z +ℤ pos 0) +ℤ pos 0)
  to_least w h = elim (le_or_lt (negsuc 2147483648) x) [
    | inl k ↦ omega (arith, ints, same k, h)
    | inr k ↦ omega (arith, ints, past k, w.above)
  ]

  pub from_least : r ≤ℤ ((z +ℤ pos 0) +ℤ pos 0) → x ≤ℤ z
  from_least h = elim (le_or_lt (negsuc 2147483648) x) [
    | inl k ↦ omega (arith, ints, same k, h)
    | inr k ↦ omega (arith, ints, past k, h, k)
  ]

  pub to_most : IsWord32 z → z ≤ℤ x → ((z +ℤ pos 0) +ℤ pos 0) ≤ℤ r
  to_most w h = elim (le_or_lt (negsuc 2147483648) x) [
    | inl k ↦ omega (arith, ints, same k, h)
    | inr k ↦ omega (arith, ints, k, h, w.above)
  ]

  pub from_most : IsWord32 z → ((z +ℤ pos 0) +ℤ pos 0) ≤ℤ r → z ≤ℤ x
  from_most w h = elim (le_or_lt (negsuc 2147483648) x) [
    | inl k ↦ omega (arith, ints, same k, h)
    | inr k ↦ omega (arith, ints, past k, h, w.above)
  ]
