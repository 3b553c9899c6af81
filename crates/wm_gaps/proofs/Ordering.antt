-- The first line that is passed in a walk through the lines of a head in their order.
use Rattle.std.proofs.Common.{◌≡◌, ℕ, Option, Some, None, refl, subst, sym, ◌⊎◌, inl, inr, arith}
use Rattle.wm_cert.specs.declared.gap.Line.{Line}
use Rattle.wm_cert.specs.declared.gap.Line.TheVariants.{Bound, Minus, Plus, Array}
use Rattle.wm_domain.specs.Points.{Point}
use Rattle.wm_gaps.specs.declared.passed.Passed.{Passed}
use Rattle.wm_gaps.specs.First.{IsThe, IsOfPair, IsBefore, AreHeld, IsFirst, IsAnswer}
use Rattle.wm_gaps.proofs.Firsts.{found, none_found}

-- the answer for lines of two kinds, of which the first are held
module _ (One First Second : Line → Type 0) (Has Allowed : Point → Type 0) where
  pub second_answer : AreHeld First Has Allowed → (it : Option Passed) → IsAnswer Second Has Allowed it → ((m : Line) → Second m → One m) → ((l : Line) → One l → First l ⊎ Second l) → IsAnswer One Has Allowed it
  second_answer h None answer sub cover = none_found One First Second Has Allowed h answer cover
  second_answer h (Some it) answer sub cover = found One First Second Has Allowed h it answer sub (λ l m one second before. cover l one)

-- ---- a pair: its difference, and then its sum

is_minus : (i j k l : ℕ) → k ≡ i → l ≡ j → Minus k l ≡ Minus i j
is_minus i j k l a b = cc

is_plus : (i j k l : ℕ) → k ≡ i → l ≡ j → Plus k l ≡ Plus i j
is_plus i j k l a b = cc

pair_cover : (i j : ℕ) (l : Line) → IsOfPair i j l → IsThe (Minus i j) l ⊎ IsThe (Plus i j) l
pair_cover i j (Bound v) is = absurd is
pair_cover i j (Minus k l) (a, b) = inl (is_minus i j k l a b)
pair_cover i j (Plus k l) (a, b) = inr (is_plus i j k l a b)
pair_cover i j (Array a) is = absurd is

minus_sub : (i j : ℕ) (m : Line) → IsThe (Minus i j) m → IsOfPair i j m
minus_sub i j m e = subst (IsOfPair i j) (sym e) (refl, refl)

plus_sub : (i j : ℕ) (m : Line) → IsThe (Plus i j) m → IsOfPair i j m
plus_sub i j m e = subst (IsOfPair i j) (sym e) (refl, refl)

sum_behind : (i j : ℕ) → IsBefore (Plus i j) (Minus i j) → ⊥
sum_behind i j (inl h) = search arith
sum_behind i j (inr h) = search arith

before_minus : (i j : ℕ) (l m : Line) → IsOfPair i j l → IsThe (Minus i j) m → IsBefore l m → IsThe (Minus i j) l
before_minus i j l m is e before = by_kind (pair_cover i j l is)
  where
    by_kind : IsThe (Minus i j) l ⊎ IsThe (Plus i j) l → IsThe (Minus i j) l
    by_kind (inl is) = is
    by_kind (inr is) = absurd (sum_behind i j (subst (λ l. IsBefore l (Minus i j)) is (subst (IsBefore l) e before)))

pub difference_first : (i j : ℕ) (Has Allowed : Point → Type 0) (it : Passed) → IsFirst (IsThe (Minus i j)) Has Allowed it → IsFirst (IsOfPair i j) Has Allowed it
difference_first i j Has Allowed it first = record {
  one = minus_sub i j it.line first.one;
  passed = first.passed;
  before = λ l is before. first.before l (before_minus i j l it.line is first.one before) before;
  low = first.low;
}

pub sum_second : (i j : ℕ) (Has Allowed : Point → Type 0) (it : Option Passed) → AreHeld (IsThe (Minus i j)) Has Allowed → IsAnswer (IsThe (Plus i j)) Has Allowed it → IsAnswer (IsOfPair i j) Has Allowed it
sum_second i j Has Allowed it h answer = second_answer (IsOfPair i j) (IsThe (Minus i j)) (IsThe (Plus i j)) Has Allowed h it answer (plus_sub i j) (pair_cover i j)
