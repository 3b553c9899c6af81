-- The first bound that is passed on the lines of pairs, row by row.
use Rattle.std.proofs.Common.{◌≡◌, ℕ, ◌<◌, true, false, is_some, Option, Some, None, ◌⊎◌, inl, inr, arith}
use Rattle.wm_cert.specs.declared.gap.Line.{Line}
use Rattle.wm_cert.specs.declared.gap.Line.TheVariants.{Bound, Minus, Plus, Array}
use Rattle.wm_domain.specs.Points.{Point}
use Rattle.wm_gaps.specs.declared.passed.Passed.{Passed}
use Rattle.wm_gaps.specs.First.{IsOfPair, IsRowLine, IsRowsLine, IsPairLine, IsBefore, IsPairBefore, AreHeld, IsAnswer}
use Rattle.wm_gaps.proofs.Firsts.{found}

none_is_none : false ≡ true → ⊥
none_is_none e = cc

row_sub : (first second count : ℕ) → first < second → second < count → (m : Line) → IsOfPair first second m → IsRowLine first count m
row_sub first second count h k (Bound v) is = is
row_sub first second count h k (Minus i j) (a, b) = (a, search arith, search arith)
row_sub first second count h k (Plus i j) (a, b) = (a, search arith, search arith)
row_sub first second count h k (Array a) is = is

row_less : (first second count i j k l : ℕ) → i ≡ first → k ≡ first → l ≡ second → IsPairBefore i j k l → j < second
row_less first second count i j k l a b c (inl h) = absurd (search arith)
row_less first second count i j k l a b c (inr (e, h)) = search arith

row_cover : (first second count : ℕ) (l m : Line) → IsRowLine first count l → IsOfPair first second m → IsBefore l m → IsRowLine first second l ⊎ IsOfPair first second l
row_cover first second count (Bound v) m is other before = absurd is
row_cover first second count (Array a) m is other before = absurd is
row_cover first second count (Minus i j) (Bound v) is other before = absurd other
row_cover first second count (Minus i j) (Array a) is other before = absurd other
row_cover first second count (Plus i j) (Bound v) is other before = absurd other
row_cover first second count (Plus i j) (Array a) is other before = absurd other
row_cover first second count (Minus i j) (Minus k l) (a, b, c) (d, e) before = inl (a, b, row_less first second count i j k l a d e before)
row_cover first second count (Minus i j) (Plus k l) (a, b, c) (d, e) (inl before) = inl (a, b, row_less first second count i j k l a d e before)
row_cover first second count (Minus i j) (Plus k l) (a, b, c) (d, e) (inr (same, here)) = inr (a, search arith)
row_cover first second count (Plus i j) (Minus k l) (a, b, c) (d, e) before = inl (a, b, row_less first second count i j k l a d e before)
row_cover first second count (Plus i j) (Plus k l) (a, b, c) (d, e) before = inl (a, b, row_less first second count i j k l a d e before)

pub row_found : (first second count : ℕ) (Has Allowed : Point → Type 0) (it : Option Passed) → first < second → second < count → AreHeld (IsRowLine first second) Has Allowed → is_some it ≡ true → IsAnswer (IsOfPair first second) Has Allowed it → IsAnswer (IsRowLine first count) Has Allowed it
row_found first second count Has Allowed None h k held e answer = absurd (none_is_none e)
row_found first second count Has Allowed (Some it) h k held e answer =
    found (IsRowLine first count) (IsRowLine first second) (IsOfPair first second) Has Allowed held it answer (row_sub first second count h k) (row_cover first second count)

pairs_sub : (first count : ℕ) (m : Line) → IsRowLine first count m → IsPairLine count m
pairs_sub first count (Bound v) is = is
pairs_sub first count (Minus i j) (a, b, c) = (b, c)
pairs_sub first count (Plus i j) (a, b, c) = (b, c)
pairs_sub first count (Array a) is = is

pairs_kind : (first count i j k l : ℕ) → k ≡ first → i < j → j < count → IsPairBefore i j k l → ((i < first) × (i < j) × (j < count)) ⊎ ((i ≡ first) × (i < j) × (j < count))
pairs_kind first count i j k l a b c (inl h) = inl (search arith, b, c)
pairs_kind first count i j k l a b c (inr (e, h)) = inr (search arith, b, c)

pairs_cover : (first count : ℕ) (l m : Line) → IsPairLine count l → IsRowLine first count m → IsBefore l m → IsRowsLine first count l ⊎ IsRowLine first count l
pairs_cover first count (Bound v) m is other before = absurd is
pairs_cover first count (Array a) m is other before = absurd is
pairs_cover first count (Minus i j) (Bound v) is other before = absurd other
pairs_cover first count (Minus i j) (Array a) is other before = absurd other
pairs_cover first count (Plus i j) (Bound v) is other before = absurd other
pairs_cover first count (Plus i j) (Array a) is other before = absurd other
pairs_cover first count (Minus i j) (Minus k l) (b, c) (a, d, e) before = pairs_kind first count i j k l a b c before
pairs_cover first count (Minus i j) (Plus k l) (b, c) (a, d, e) (inl before) = pairs_kind first count i j k l a b c before
pairs_cover first count (Minus i j) (Plus k l) (b, c) (a, d, e) (inr (same, here)) = inr (search arith, b, c)
pairs_cover first count (Plus i j) (Minus k l) (b, c) (a, d, e) before = pairs_kind first count i j k l a b c before
pairs_cover first count (Plus i j) (Plus k l) (b, c) (a, d, e) before = pairs_kind first count i j k l a b c before

pub pairs_found : (first count : ℕ) (Has Allowed : Point → Type 0) (it : Option Passed) → AreHeld (IsRowsLine first count) Has Allowed → is_some it ≡ true → IsAnswer (IsRowLine first count) Has Allowed it → IsAnswer (IsPairLine count) Has Allowed it
pairs_found first count Has Allowed None held e answer = absurd (none_is_none e)
pairs_found first count Has Allowed (Some it) held e answer =
    found (IsPairLine count) (IsRowsLine first count) (IsRowLine first count) Has Allowed held it answer (pairs_sub first count) (pairs_cover first count)
