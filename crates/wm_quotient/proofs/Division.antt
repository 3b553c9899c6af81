-- Quotients that are truncated towards zero: by a number above 0 they grow with the dividend, by one below 0 they fall.
use Rattle.std.proofs.Common.{◌≡◌, ◌≢◌, ◌⊎◌, inl, inr, ℕ, zero, suc, ◌*◌, ◌/◌, ◌<◌, ◌≤◌, ◌^◌, ℤ, pos, negsuc, neg_ℤ, ◌≤ℤ◌, ◌<ℤ◌, unsigned_abs, int_div, FitsSigned, refl, sym, subst, ◌∙◌, w64, div-le_self, arith}
use Rattle.std.proofs.lemmas.Int.{ints, fits_signed_from_abs}
use Rattle.std.proofs.lemmas.Nat.{le-div}
use Rattle.std.proofs.Math.Nat.{div-mul-le_self}
use Rattle.wm_numbers.specs.Within.{IsWord32}
use Rattle.wm_numbers.proofs.Order.{le_trans}
use Rattle.wm_interval.specs.declared.Interval.{Interval}
use Rattle.wm_interval.specs.Holds.{Holds, SizesAtMost}
use Rattle.wm_quotient.specs.Dividing.{HoldsQuotientsBy, HoldsQuotients}

over : (a c k : ℕ) → 0 < k → a ≤ c → a / k ≤ c / k
over a c k h le = le-div (a / k) c k h (omega (arith, div-mul-le_self a k, le))

pub grows : (a c d : ℤ) → pos 0 <ℤ d → a ≤ℤ c → int_div a d ≤ℤ int_div c d
grows (pos a) (pos c) (pos d) h le = omega (arith, ints, over a c d (omega (arith, ints, h)) (omega (arith, ints, le)))
grows (pos a) (negsuc c) (pos d) h le = absurd (omega (arith, ints, le))
grows (negsuc a) (pos c) (pos d) h le = omega (arith, ints)
grows (negsuc a) (negsuc c) (pos d) h le = omega (arith, ints, over (suc c) (suc a) d (omega (arith, ints, h)) (omega (arith, ints, le)))
grows a c (negsuc d) h le = absurd (omega (arith, ints, h))

pub falls : (a c d : ℤ) → d <ℤ pos 0 → a ≤ℤ c → int_div c d ≤ℤ int_div a d
falls (pos a) (pos c) (negsuc d) h le = omega (arith, ints, over a c (suc d) (omega arith) (omega (arith, ints, le)))
falls (pos a) (negsuc c) (negsuc d) h le = absurd (omega (arith, ints, le))
falls (negsuc a) (pos c) (negsuc d) h le = omega (arith, ints)
falls (negsuc a) (negsuc c) (negsuc d) h le = omega (arith, ints, over (suc c) (suc a) (suc d) (omega arith) (omega (arith, ints, le)))
falls a c (pos d) h le = absurd (omega (arith, ints, h))

quotient_size : (a d : ℤ) → unsigned_abs (int_div a d) ≤ unsigned_abs a
quotient_size (pos a) (pos d) = omega (arith, ints, div-le_self a d)
quotient_size (pos a) (negsuc d) = omega (arith, ints, div-le_self a (suc d))
quotient_size (negsuc a) (pos d) = omega (arith, ints, div-le_self (suc a) d)
quotient_size (negsuc a) (negsuc d) = omega (arith, ints, div-le_self (suc a) (suc d))

-- no quotient of a number of 32 bits is past 64 bits
pub quotient_fits : (a d : ℤ) → unsigned_abs a ≤ 2 ^ 31 → FitsSigned w64 (int_div a d)
quotient_fits a d h = fits_signed_from_abs w64 (int_div a d) (omega (arith, quotient_size a d, h))

pub held_above : (x r : Interval) (d : ℤ) → pos 0 <ℤ d → r.low ≡ int_div x.low d → r.high ≡ int_div x.high d → HoldsQuotientsBy x d r
held_above x r d h low high = λ a c z ia ic above below fits. record {
  above = subst (λ y. y ≤ℤ z) (sym low) (le_trans (grows x.low a d h ia.above) above);
  below = subst (λ y. z ≤ℤ y) (sym high) (le_trans below (grows c x.high d h ic.below));
}

pub held_below : (x r : Interval) (d : ℤ) → d <ℤ pos 0 → r.low ≡ int_div x.high d → r.high ≡ int_div x.low d → HoldsQuotientsBy x d r
held_below x r d h low high = λ a c z ia ic above below fits. record {
  above = subst (λ y. y ≤ℤ z) (sym low) (le_trans (falls a x.high d h ia.below) above);
  below = subst (λ y. z ≤ℤ y) (sym high) (le_trans below (falls x.low c d h ic.above));
}

at_low : (y : Interval) (b : ℤ) → y.low ≡ y.high → Holds y b → b ≡ y.low
at_low y b e h = omega (arith, ints, e, h.above, h.below)

-- an interval of one number
pub single : (x y r : Interval) → y.low ≡ y.high → HoldsQuotientsBy x y.low r → HoldsQuotients x y r
single x y r e h = λ a b c d z ia ib ic id above below fits.
    h a c z ia ic (subst (λ (k : ℤ). int_div a k ≤ℤ z) (at_low y b e ib) above) (subst (λ (k : ℤ). z ≤ℤ int_div c k) (at_low y d e id) below) fits

pub fits_of_size : (z : ℤ) → unsigned_abs z ≤ 2 ^ 31 → FitsSigned w64 z
fits_of_size z h = fits_signed_from_abs w64 z (omega (arith, h))

pub in_order : (x : Interval) (low high d : ℤ) → pos 0 <ℤ d → low ≡ int_div x.low d → high ≡ int_div x.high d → low ≤ℤ high
in_order x low high d h e f = subst (λ (y : ℤ). y ≤ℤ high) (sym e) (subst (λ (y : ℤ). int_div x.low d ≤ℤ y) (sym f) (grows x.low x.high d h x.ordered))
