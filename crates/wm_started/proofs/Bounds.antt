-- The least of the first cells is not above the greatest.
use Rattle.std.proofs.Common.{inl, inr, ℕ, ℤ, ◌≤ℤ◌, List, [], ◌∷◌, sym, subst}
use Rattle.std.specs.Int.{int_max, int_min}
use Rattle.wm_numbers.proofs.Order.{le_trans, le_refl, min_cases, max_cases}
use Rattle.wm_flow.specs.Seats.{least_of, greatest_of, some_value, low_of, high_of}

first_least : (z y : ℤ) → int_min z y ≤ℤ z
first_least z y = elim (min_cases z y) [
  | inl c ↦ subst (λ (x : ℤ). x ≤ℤ z) (sym c.1) (le_refl z)
  | inr c ↦ subst (λ (x : ℤ). x ≤ℤ z) (sym c.1) c.0
]

first_greatest : (z y : ℤ) → z ≤ℤ int_max z y
first_greatest z y = elim (max_cases z y) [
  | inl c ↦ subst (λ (x : ℤ). z ≤ℤ x) (sym c.1) (le_refl z)
  | inr c ↦ subst (λ (x : ℤ). z ≤ℤ x) (sym c.1) c.0
]

least_below : (z : ℤ) (values : List ℤ) → least_of z values ≤ℤ z
least_below z [] = le_refl z
least_below z (y ∷ rest) = le_trans (least_below (int_min z y) rest) (first_least z y)

greatest_above : (z : ℤ) (values : List ℤ) → z ≤ℤ greatest_of z values
greatest_above z [] = le_refl z
greatest_above z (y ∷ rest) = le_trans (first_greatest z y) (greatest_above (int_max z y) rest)

pub in_order : (count : ℕ) (values : List ℤ) → low_of count values ≤ℤ high_of count values
in_order count values = le_trans (least_below (some_value count values) values) (greatest_above (some_value count values) values)
