-- Neighbours in a list that ascends.
use Rattle.std.proofs.Common.{◌≡◌, ℕ, ◌+◌, ◌-◌, ◌<◌, ◌≤◌, ℤ, pos, ◌<ℤ◌, ◌≤ℤ◌, length, get_or, arith, List, subst, Bool, false, IsTrue, inl, inr}
use Rattle.std.specs.List.{Contains}
use Rattle.std.proofs.lemmas.Bool.{cases_lt}
use Rattle.std.proofs.lemmas.Int.{ints}
use Rattle.std.proofs.lemmas.List.{get_or_default}
use Rattle.wm_numbers.proofs.Order.{le_or_lt}
use Rattle.wm_numbers.specs.Extremes.{LeastOf, GreatestOf}
use Rattle.wm_grid.specs.Grid.{Ascends, IsAtOrAbove, IsAtOrBelow}

never : {is : Bool} → IsTrue is → is ≡ false → ⊥
never t e = cc

-- the numbers at two places, at any default
ordered : (xs : List ℤ) → Ascends xs → (i j : ℕ) (d e : ℤ) → i ≤ j → j < length xs → get_or xs i d ≤ℤ get_or xs j e
ordered xs asc i j d e h k = subst (λ (x : ℤ). get_or xs i d ≤ℤ x) (get_or_default xs j d e k) (asc.ascends i j d h k)

-- what a number of the list says of those before it and behind it
pub below_next : (xs : List ℤ) (z : ℤ) (m : ℕ) → Ascends xs → m < length xs → get_or xs m (pos 0) <ℤ z → (k : ℕ) (d : ℤ) → k < m + 1 → get_or xs k d <ℤ z
below_next xs z m asc in_list t k d h =
    let o : get_or xs k d ≤ℤ get_or xs m (pos 0) = ordered xs asc k m d (pos 0) (omega arith) in_list in
    omega (arith, ints, o, t)

pub up_to_next : (xs : List ℤ) (z : ℤ) (m : ℕ) → Ascends xs → m < length xs → get_or xs m (pos 0) ≤ℤ z → (k : ℕ) (d : ℤ) → k < m + 1 → get_or xs k d ≤ℤ z
up_to_next xs z m asc in_list t k d h =
    let o : get_or xs k d ≤ℤ get_or xs m (pos 0) = ordered xs asc k m d (pos 0) (omega arith) in_list in
    omega (arith, ints, o, t)

pub above_from : (xs : List ℤ) (z : ℤ) (m : ℕ) → Ascends xs → z ≤ℤ get_or xs m (pos 0) → (k : ℕ) (d : ℤ) → m ≤ k → k < length xs → z ≤ℤ get_or xs k d
above_from xs z m asc t k d h in_list =
    let o : get_or xs m (pos 0) ≤ℤ get_or xs k d = ordered xs asc m k (pos 0) d h in_list in
    omega (arith, ints, o, t)

pub past_from : (xs : List ℤ) (z : ℤ) (m : ℕ) → Ascends xs → z <ℤ get_or xs m (pos 0) → (k : ℕ) (d : ℤ) → m ≤ k → k < length xs → z <ℤ get_or xs k d
past_from xs z m asc t k d h in_list =
    let o : get_or xs m (pos 0) ≤ℤ get_or xs k d = ordered xs asc m k (pos 0) d h in_list in
    omega (arith, ints, o, t)

-- a test that failed
pub from_not_below : (x z : ℤ) (is : Bool) → is ≡ false → (x <ℤ z → IsTrue is) → z ≤ℤ x
from_not_below x z is e h = elim (le_or_lt z x) [ inl le ↦ le | inr lt ↦ absurd (never (h lt) e) ]

pub from_not_up_to : (x z : ℤ) (is : Bool) → is ≡ false → (x ≤ℤ z → IsTrue is) → z <ℤ x
from_not_up_to x z is e h = elim (le_or_lt x z) [ inl le ↦ absurd (never (h le) e) | inr lt ↦ lt ]

-- the number at a place is one of the list
is_at : (xs : List ℤ) (p : ℕ) → p < length xs → Contains xs (get_or xs p (pos 0))
is_at xs p h = (p, h, get_or_default xs p (get_or xs p (pos 0)) (pos 0) h)

module _ (xs : List ℤ) (z : ℤ) (p : ℕ) (asc : Ascends xs) where
  pub none_above : length xs ≤ p → ((k : ℕ) (d : ℤ) → k < p → get_or xs k d <ℤ z) → (y : ℤ) → IsAtOrAbove xs z y → ⊥
  none_above past below y h =
      let b : get_or xs h.is_one.0 y <ℤ z = below h.is_one.0 y (omega (arith, past, h.is_one.1)) in
      let a = h.above in
      let e = h.is_one.2 in
      omega (arith, ints, a, b, e)

  pub first_above : p < length xs → ((k : ℕ) (d : ℤ) → k < p → get_or xs k d <ℤ z) → ((k : ℕ) (d : ℤ) → p ≤ k → k < length xs → z ≤ℤ get_or xs k d) → LeastOf (IsAtOrAbove xs z) (get_or xs p (pos 0))
  first_above room below above = record {
    attained = record { is_one = is_at xs p room; above = above p (pos 0) (omega arith) room };
    least = λ w h. elim (cases_lt h.is_one.0 p) [
      | inl before ↦
          let b : get_or xs h.is_one.0 w <ℤ z = below h.is_one.0 w before in
          let a = h.above in
          let e = h.is_one.2 in
          absurd (omega (arith, ints, a, b, e))
      | inr behind ↦ subst (λ (x : ℤ). get_or xs p (pos 0) ≤ℤ x) h.is_one.2 (ordered xs asc p h.is_one.0 (pos 0) w behind h.is_one.1)
    ];
  }

  pub none_below : p ≡ 0 → ((k : ℕ) (d : ℤ) → p ≤ k → k < length xs → z <ℤ get_or xs k d) → (y : ℤ) → IsAtOrBelow xs z y → ⊥
  none_below first above y h =
      let b : z <ℤ get_or xs h.is_one.0 y = above h.is_one.0 y (omega (arith, first)) h.is_one.1 in
      let a = h.below in
      let e = h.is_one.2 in
      omega (arith, ints, a, b, e)

  pub last_below : 0 < p → p ≤ length xs → ((k : ℕ) (d : ℤ) → k < p → get_or xs k d ≤ℤ z) → ((k : ℕ) (d : ℤ) → p ≤ k → k < length xs → z <ℤ get_or xs k d) → GreatestOf (IsAtOrBelow xs z) (get_or xs (p - 1) (pos 0))
  last_below some room below above =
      let last : p - 1 < length xs = omega arith in
      record {
        attained = record { is_one = is_at xs (p - 1) last; below = below (p - 1) (pos 0) (omega arith) };
        greatest = λ w h. elim (cases_lt h.is_one.0 p) [
          | inl before ↦ subst (λ (x : ℤ). x ≤ℤ get_or xs (p - 1) (pos 0)) h.is_one.2 (ordered xs asc h.is_one.0 (p - 1) w (pos 0) (omega (arith, before)) last)
          | inr behind ↦
              let b : z <ℤ get_or xs h.is_one.0 w = above h.is_one.0 w behind h.is_one.1 in
              let a = h.below in
              let e = h.is_one.2 in
              absurd (omega (arith, ints, a, b, e))
        ];
      }
