-- A whole number between lower and upper ends, each of which admits each other.
use Rattle.std.proofs.Common.{ℕ, zero, suc, ◌<◌, ◌⊎◌, inl, inr, ℤ, ◌≤ℤ◌, ◌≡◌, subst, sym, arith}
use Rattle.std.proofs.lemmas.Int.{ints, clamps}
use Rattle.std.proofs.lemmas.Bool.{cases_lt}
use Rattle.std.specs.Int.{int_max}

-- the greatest of l and of the first n numbers
greatest : (ℕ → ℤ) → ℤ → ℕ → ℤ
greatest f l zero = l
greatest f l (suc n) = int_max (greatest f l n) (f n)

max_left : (x y z : ℤ) → z ≤ℤ x → z ≤ℤ int_max x y
max_left x y z h = omega (arith, ints, clamps)

max_right : (x y z : ℤ) → z ≤ℤ y → z ≤ℤ int_max x y
max_right x y z h = omega (arith, ints, clamps)

max_most : (x y z : ℤ) → x ≤ℤ z → y ≤ℤ z → int_max x y ≤ℤ z
max_most x y z h k = omega (arith, ints, clamps)

le_self : (x : ℤ) → x ≤ℤ x
le_self x = omega (arith, ints)

from_start : (f : ℕ → ℤ) (l : ℤ) (n : ℕ) → l ≤ℤ greatest f l n
unfolding greatest
from_start f l zero = le_self l
from_start f l (suc n) = max_left (greatest f l n) (f n) l (from_start f l n)

from_each : (f : ℕ → ℤ) (l : ℤ) (n i : ℕ) → i < n → f i ≤ℤ greatest f l n
unfolding greatest
from_each f l zero i h = absurd (omega arith)
from_each f l (suc n) i h = elim (cases_lt i n) [
  | inl before ↦ max_left (greatest f l n) (f n) (f i) (from_each f l n i before)
  | inr at ↦ (let e : n ≡ i = omega arith in subst (λ (k : ℕ). f k ≤ℤ int_max (greatest f l n) (f n)) e (max_right (greatest f l n) (f n) (f n) (le_self (f n))))
]

at_most : (f : ℕ → ℤ) (l : ℤ) (n : ℕ) (h : ℤ) → l ≤ℤ h → ((i : ℕ) → i < n → f i ≤ℤ h) → greatest f l n ≤ℤ h
unfolding greatest
at_most f l zero h k each = k
at_most f l (suc n) h k each = max_most (greatest f l n) (f n) h (at_most f l n h k (λ i hi. each i (omega arith))) (each n (omega arith))

pub record Between (n : ℕ) (low high : ℕ → ℤ) (l h : ℤ) : Type 0 where
  pub z : ℤ
  pub above : l ≤ℤ z
  pub below : z ≤ℤ h
  pub all_above : (i : ℕ) → i < n → low i ≤ℤ z
  pub all_below : (i : ℕ) → i < n → z ≤ℤ high i

pub between : (n : ℕ) (low high : ℕ → ℤ) (l h : ℤ) → l ≤ℤ h → ((i : ℕ) → i < n → low i ≤ℤ h) → ((i : ℕ) → i < n → l ≤ℤ high i)
    → ((i j : ℕ) → i < n → j < n → low i ≤ℤ high j) → Between n low high l h
between n low high l h room lows highs all = record {
  z = greatest low l n;
  above = from_start low l n;
  below = at_most low l n h room lows;
  all_above = λ i hi. from_each low l n i hi;
  all_below = λ j hj. at_most low l n (high j) (highs j hj) (λ i hi. all i j hi hj);
}
