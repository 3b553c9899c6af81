-- The first number of a box that is below one number or above another.
use Rattle.std.proofs.Common.{◌≡◌, ◌⊎◌, ⊎_elim, inl, inr, arith, ℤ, pos, ◌+ℤ◌, ◌≤ℤ◌, ◌<ℤ◌, Bool, true, false, ◌||◌}
use Rattle.std.proofs.lemmas.Int.{ints}
use Rattle.std.specs.Prelude.{int_lt}
use Rattle.wm_interval.specs.declared.Interval.{Interval}
use Rattle.wm_interval.specs.Holds.{Holds}
use Rattle.wm_hull.specs.Boxes.{zero_box}
use Rattle.wm_hull.specs.Failures.{IsFirst}

abbrev outside : (low high : ℤ) → ℤ → ℤ → ℤ → Bool
outside low high a b c = int_lt a low || int_lt high a

less_or_equal : (u v : ℤ) → u ≤ℤ v → (u <ℤ v) ⊎ (u ≡ v)
less_or_equal u v h = grind (arith, ints)

zero_is : (e : ℤ) → pos 0 ≤ℤ e → e ≤ℤ pos 0 → pos 0 ≡ e
zero_is e h k = omega (arith, ints)

above_true : (a low high : ℤ) → high <ℤ a → (int_lt a low || int_lt high a) ≡ true
above_true a low high h = grind (arith, ints)

below_true : (a low high : ℤ) → a <ℤ low → (int_lt a low || int_lt high a) ≡ true
below_true a low high h = grind (arith, ints)

inside_false : (a low high : ℤ) → low ≤ℤ a → a ≤ℤ high → (int_lt a low || int_lt high a) ≡ false
inside_false a low high h k = grind (arith, ints)

next_of : (d high : ℤ) → high <ℤ d → (high +ℤ pos 1) ≤ℤ d
next_of d high h = omega (arith, ints)

first_at : (x : Interval) (low high a : ℤ) → Holds x a → (int_lt a low || int_lt high a) ≡ true
    → ((d : ℤ) → Holds x d → (int_lt d low || int_lt high d) ≡ true → a ≤ℤ d)
    → IsFirst (outside low high) x zero_box zero_box a (pos 0) (pos 0)
first_at x low high a inside test least = record {
  inside = record { first = inside; second = record { above = omega (arith, ints); below = omega (arith, ints) }; third = record { above = omega (arith, ints); below = omega (arith, ints) } };
  holds = test;
  before = λ d e f within u. ⊎_elim
      (λ less. inl less)
      (λ same. inr (same, inr (zero_is e within.second.above within.second.below, within.third.above)))
      (less_or_equal a d (least d within.first u));
}

pub first_low : (x : Interval) (low high : ℤ) → high <ℤ x.low → IsFirst (outside low high) x zero_box zero_box x.low (pos 0) (pos 0)
first_low x low high h =
    let o = x.ordered in
    first_at x low high x.low (record { above = omega (arith, ints); below = o }) (above_true x.low low high h) (λ d w u. w.above)

cases : (d low high : ℤ) → (int_lt d low || int_lt high d) ≡ true → (d <ℤ low) ⊎ (high <ℤ d)
cases d low high u = grind (arith, ints)

pub first_above : (x : Interval) (low high : ℤ) → low ≤ℤ x.low → x.low ≤ℤ high → high <ℤ x.high → IsFirst (outside low high) x zero_box zero_box (high +ℤ pos 1) (pos 0) (pos 0)
first_above x low high h k t =
    first_at x low high (high +ℤ pos 1) (record { above = omega (arith, ints); below = next_of x.high high t }) (above_true (high +ℤ pos 1) low high (omega (arith, ints)))
    (λ d w u. ⊎_elim (λ less. let a = w.above in absurd (omega (arith, ints))) (λ more. next_of d high more) (cases d low high u))
