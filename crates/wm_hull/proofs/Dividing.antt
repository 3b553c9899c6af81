-- Quotients of fractions: they rise with the dividend and fall as the divisor grows; equal numbers give the greatest.
use Rattle.std.proofs.Common.{◌≡◌, ◌⊎◌, ⊎_elim, sym, ap, ◌∙◌, ℕ, ◌+◌, ◌*◌, ◌/◌, ◌≤◌, ◌<◌, ℤ, pos, negsuc, ◌*ℤ◌, ◌≤ℤ◌, ◌<ℤ◌, IsTrue, arith}
use Rattle.std.proofs.Math.Nat.{mul-le-mul_left, mul-le-mul_right, div-add-mod', mod-lt}
use Rattle.std.proofs.lemmas.Bool.{cases_lt}
use Rattle.std.proofs.lemmas.Int.{ints}
use Rattle.std.specs.Int.{int_div_euclid}
use Rattle.wm_numbers.proofs.Order.{le_trans, le_of_eq}
use Rattle.wm_ops.specs.Division.{is_quotient, quotient}

-- the domain in plain facts
pub record InDomain (a b : ℤ) : Type 0 where
  pub natural : pos 0 ≤ℤ a
  pub proper : a ≤ℤ b
  pub positive : pos 1 ≤ℤ b

pub domain_out : (a b : ℤ) → IsTrue (is_quotient a b) → InDomain a b
unfolding is_quotient
domain_out a b h = record { natural = grind (arith, ints); proper = grind (arith, ints); positive = grind (arith, ints) }

pub domain_in : (a b : ℤ) → InDomain a b → IsTrue (is_quotient a b)
unfolding is_quotient
domain_in a b h = let n = h.natural in let p = h.proper in let q = h.positive in grind (arith, ints)

pub quotient_equal : (a : ℤ) → quotient a a ≡ pos 32767
unfolding quotient
quotient_equal a = grind (arith, ints)

pub quotient_proper : (a b : ℤ) → a <ℤ b → quotient a b ≡ int_div_euclid (a *ℤ pos 32768) b
unfolding quotient
quotient_proper a b h = grind (arith, ints)

-- division of naturals: q is at most m / n exactly where q * n is at most m
at_least : (q m n : ℕ) → 0 < n → q * n ≤ m → q ≤ m / n
at_least q m n h k = ⊎_elim
    (λ below. absurd (let step : (m / n) + 1 ≤ q = omega arith in let more = mul-le-mul_right n step in let split = div-add-mod' m n in let left = mod-lt m h in omega arith))
    (λ r. r) (cases_lt (m / n) q)

at_most : (m n : ℕ) → m / n * n ≤ m
at_most m n = let split = div-add-mod' m n in omega arith

rises_nat : (a b c d : ℕ) → 0 < d → a ≤ c → d ≤ b → a * 32768 / b ≤ c * 32768 / d
rises_nat a b c d h k l =
    let q = a * 32768 / b in
    let below = at_most (a * 32768) b in
    let less = mul-le-mul_left q l in
    at_least q (c * 32768) d h (omega arith)

below_nat : (a b : ℕ) → a < b → a * 32768 / b ≤ 32767
below_nat a b h = ⊎_elim (λ r. omega arith)
    (λ r. absurd (let below = at_most (a * 32768) b in let more = mul-le-mul_right b r in omega arith))
    (cases_lt (a * 32768 / b) 32768)

proper_rises : (a b c d : ℤ) → InDomain a b → InDomain c d → a <ℤ b → c <ℤ d → a ≤ℤ c → d ≤ℤ b → int_div_euclid (a *ℤ pos 32768) b ≤ℤ int_div_euclid (c *ℤ pos 32768) d
proper_rises (negsuc a) b c d h k l m n o = let e = h.natural in absurd (omega (arith, ints))
proper_rises (pos a) (negsuc b) c d h k l m n o = let e = h.positive in absurd (omega (arith, ints))
proper_rises (pos a) (pos b) (negsuc c) d h k l m n o = let e = k.natural in absurd (omega (arith, ints))
proper_rises (pos a) (pos b) (pos c) (negsuc d) h k l m n o = let e = k.positive in absurd (omega (arith, ints))
proper_rises (pos a) (pos b) (pos c) (pos d) h k l m n o = let e = k.positive in let r : a * 32768 / b ≤ c * 32768 / d = rises_nat a b c d (omega (arith, ints)) (omega (arith, ints)) (omega (arith, ints)) in omega (arith, ints)

proper_below : (a b : ℤ) → InDomain a b → a <ℤ b → int_div_euclid (a *ℤ pos 32768) b ≤ℤ pos 32767
proper_below (negsuc a) b h l = let e = h.natural in absurd (omega (arith, ints))
proper_below (pos a) (negsuc b) h l = let e = h.positive in absurd (omega (arith, ints))
proper_below (pos a) (pos b) h l = let r : a * 32768 / b ≤ 32767 = below_nat a b (omega (arith, ints)) in omega (arith, ints)

equal_or_proper : (a b : ℤ) → a ≤ℤ b → (a ≡ b) ⊎ (a <ℤ b)
equal_or_proper a b h = grind (arith, ints)

pub quotient_most : (a b : ℤ) → InDomain a b → quotient a b ≤ℤ pos 32767
quotient_most a b h = ⊎_elim
    (λ e. le_of_eq (ap (λ (d : ℤ). quotient a d) (sym e) ∙ quotient_equal a))
    (λ l. le_trans (le_of_eq (quotient_proper a b l)) (proper_below a b h l))
    (equal_or_proper a b h.proper)

pub quotient_rises : (a b c d : ℤ) → InDomain a b → InDomain c d → a ≤ℤ c → d ≤ℤ b → quotient a b ≤ℤ quotient c d
quotient_rises a b c d h k m n = ⊎_elim
    (λ e. le_trans (quotient_most a b h) (le_of_eq (sym (ap (λ (v : ℤ). quotient c v) (sym e) ∙ quotient_equal c))))
    (λ l. let p : a <ℤ b = omega (arith, ints) in
    le_trans (le_of_eq (quotient_proper a b p)) (le_trans (proper_rises a b c d h k p l m n) (le_of_eq (sym (quotient_proper c d l)))))
    (equal_or_proper c d k.proper)
