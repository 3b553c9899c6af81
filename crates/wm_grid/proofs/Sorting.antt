-- A sorted list ascends and has the numbers that it had.
use Rattle.std.proofs.Common.{◌≡◌, ℕ, zero, suc, ◌+◌, ◌-◌, ◌<◌, ◌≤◌, ℤ, ◌<ℤ◌, ◌≤ℤ◌, length, get_or, arith, List, false, subst, sym, refl, ◌↔◌}
use Rattle.std.specs.List.{Contains}
use Rattle.std.specs.List.Sorted.{IsSorted, IsPermutation}
use Rattle.std.specs.Ordering.{int_cmp, is_lt, MatchOrdering}
use Rattle.std.specs.declared.cmp.Ordering.{Ordering}
use Rattle.std.specs.declared.cmp.Ordering.TheVariants.{Less, Equal, Greater}
use Rattle.std.proofs.lemmas.Cmp.{int_ranked}
use Rattle.std.proofs.lemmas.Int.{ints}
use Rattle.std.proofs.lemmas.List.Sorted.{Contains-permutation, IsPermutation-sym}
use Rattle.wm_grid.specs.Grid.{Ascends}

-- the order of two numbers from the test that sorting answers
from_rank : (x y : ℤ) (r : Ordering) → MatchOrdering r (y <ℤ x) (y ≡ x) (x <ℤ y) → is_lt r ≡ false → x ≤ℤ y
from_rank x y Less m h = absurd (cc)
from_rank x y Equal m h = omega (arith, ints, m)
from_rank x y Greater m h = omega (arith, ints, m)

from_test : (x y : ℤ) → is_lt (int_cmp y x) ≡ false → x ≤ℤ y
from_test x y h = from_rank x y (int_cmp y x) (int_ranked y x (int_cmp y x) refl) h

-- from a place on, by so many more
ordered_by : (xs : List ℤ) → IsSorted int_cmp xs → (n i : ℕ) (d : ℤ) → i + n < length xs → get_or xs i d ≤ℤ get_or xs (i + n) d
ordered_by xs h zero i d room =
    let e : i + 0 ≡ i = omega arith in
    let same : get_or xs i d ≤ℤ get_or xs i d = omega (arith, ints) in
    subst (λ k. get_or xs i d ≤ℤ get_or xs k d) (sym e) same
ordered_by xs h (suc n) i d room =
    let before : get_or xs i d ≤ℤ get_or xs (i + n) d = ordered_by xs h n i d (omega arith) in
    let next : get_or xs (i + n) d ≤ℤ get_or xs (i + n + 1) d = from_test _ _ (h (i + n) d (omega arith) (omega arith)) in
    let e : i + n + 1 ≡ i + suc n = omega arith in
    subst (λ k. get_or xs i d ≤ℤ get_or xs k d) e (omega (arith, ints, before, next))

pub ascends_from_sort : (xs : List ℤ) → IsSorted int_cmp xs → Ascends xs
ascends_from_sort xs h = record {
  ascends = λ i j d le room.
      let e : i + (j - i) ≡ j = omega arith in
      subst (λ k. get_or xs i d ≤ℤ get_or xs k d) e (ordered_by xs h (j - i) i d (omega arith));
}

pub same_numbers : (xs ys : List ℤ) → IsPermutation xs ys → (y : ℤ) → Contains ys y ↔ Contains xs y
same_numbers xs ys h y = (Contains-permutation ys xs y (IsPermutation-sym _ _ h), Contains-permutation xs ys y h)
