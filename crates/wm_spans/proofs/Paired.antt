-- What variables and arrays that are paired by place leave of points.
use Rattle.std.proofs.Common.{◌≡◌, ◌⊎◌, inl, inr, ℕ, zero, suc, ◌+◌, ◌-◌, ◌<◌, ◌≤◌, ℤ, List, [], ◌∷◌, ◌++◌, length, take, drop, min, Bool, false, true, sym, ◌∙◌, ap, subst, refl, arith, Some, None, Option}
use Rattle.std.specs.Prelude.{◌↔◌, slice_index_or, replicate, All}
use Rattle.std.proofs.lemmas.List.{length-append, get_or_append_left, get_or-append_right, get_or-take, get_or-drop, length-take, length-drop, length-replicate, take-append-drop}
use Rattle.wm_numbers.proofs.Order.{le_refl}
use Rattle.wm_interval.specs.declared.Interval.{Interval}
use Rattle.wm_interval.specs.Holds.{Holds}
use Rattle.wm_arrays.specs.declared.summary.Summary.{Summary}
use Rattle.wm_arrays.specs.declared.summary.Summary.TheVariants.{Empty, Range}
use Rattle.wm_arrays.specs.Meaning.{Allows}
use Rattle.wm_domain.specs.Points.{Point, range_at, nought, IsNarrow, IsInside}
use Rattle.wm_domain.specs.Changes.{Projected, ArePicks}
use Rattle.wm_domain.specs.Places.{placed, places_of, ArePaired}
use Rattle.wm_domain.proofs.Pairs.{side, placed_length, placed_here, placed_past, places_length, places_group, places_single, places_picks, placed_picks}
use Rattle.wm_spans.specs.Spanned.{Spanned, cell_at, Lies, CellsLie, IsKept, Kept, In}
use Rattle.wm_spans.specs.Exact.{Exactly, AreDrawn, IsDrawnAt, AreCut}
use Rattle.wm_spans.specs.Over.{over, parted, shape_of, IsTakenRange}
use Rattle.wm_spans.proofs.Listed.{lies_holds}
use Rattle.wm_spans.proofs.Picked.{kept_begin, drawn_lies, drawn_exactly, projected}
use Rattle.wm_spans.proofs.Over.{over_length, over_here, over_past, over_same}

own_lies : (r : Interval) → Lies r r
own_lies r = record { above = le_refl r.low; below = le_refl r.high }

taken_none : (old : List Interval) (o : Option ℕ) (full r : Interval) → o ≡ None → IsTakenRange old o full r → r ≡ full
taken_none old o full r e t = subst (λ (x : Option ℕ). IsTakenRange old x full r) e t

taken_some : (old : List Interval) (o : Option ℕ) (full r : Interval) (v : ℕ) → o ≡ Some v → IsTakenRange old o full r → r ≡ range_at old v
taken_some old o full r v e t = subst (λ (x : Option ℕ). IsTakenRange old x full r) e t

taken_lies : (s : Spanned) → Kept s → (o : Option ℕ) (full r : Interval) → ((w : ℕ) → o ≡ Some w → w < length s.full) → IsTakenRange s.full o full full → IsTakenRange s.ranges o full r → Lies full r
taken_lies s k None full r named same t = subst (Lies full) (sym t) (own_lies full)
taken_lies s k (Some w) full r named same t = subst (Lies full) (sym t) (subst (λ (f : Interval). Lies f (range_at s.ranges w)) (sym same) (k.ranges_lie w (named w refl)))

-- ---- ranges and summaries that are those of picked variables and arrays

module _ (s t : Spanned) (k : Kept s) (kt : Kept t) (picks arrays : List (Option ℕ)) (long : length picks ≡ length t.full) (along : length arrays ≡ length t.array_full) (hp : ArePicks (length s.full) picks) (ha : ArePicks (length s.array_full) arrays)
    (ranges : (v : ℕ) → v < length t.full → IsTakenRange s.ranges (slice_index_or picks v None) (range_at t.full v) (range_at t.ranges v))
    (cells : (a : ℕ) → a < length t.array_full → IsDrawnAt (cell_at s.cells) (slice_index_or arrays a None) (range_at t.array_full a) (cell_at t.cells a))
    (same : t.empty ≡ s.empty) where
  abbrev whole : Spanned
  whole = record { full = t.full; array_full = t.array_full; ranges = t.full; cells = t.cells; empty = false }

  whole_kept : Kept whole
  whole_kept = record { ranges_long = refl; cells_long = kt.cells_long; narrow = kt.narrow; ranges_lie = λ v hv. own_lies (range_at t.full v); cells_lie = kt.cells_lie }

  drawn : Exactly whole (AreDrawn (cell_at s.cells) arrays (length t.array_full))
  drawn = drawn_exactly whole t.full t.array_full t.cells (cell_at s.cells) arrays refl whole_kept cells

  cut_made : (p : Point) → In t p → AreCut (In whole) s picks (length picks) p
  cut_made p i = record {
    some = sym same ∙ i.some;
    point = record {
      some = refl;
      kept = whole_kept;
      numbers = λ v hv. lies_holds (range_at t.full v) (range_at t.ranges v) (p.values v) (kt.ranges_lie v hv) (i.numbers v hv);
      cells = i.cells;
    };
    numbers = λ j v h q. let hj = subst (λ (n : ℕ). j < n) long h in
        subst (λ (r : Interval). Holds r (p.values j)) (taken_some s.ranges (slice_index_or picks j None) (range_at t.full j) (range_at t.ranges j) v q (ranges j hj)) (i.numbers j hj);
  }

  number : (p : Point) → AreCut (In whole) s picks (length picks) p → (v : ℕ) → v < length t.full → (o : Option ℕ) → slice_index_or picks v None ≡ o → Holds (range_at t.ranges v) (p.values v)
  number p h v hv None e = subst (λ (r : Interval). Holds r (p.values v)) (sym (taken_none s.ranges (slice_index_or picks v None) (range_at t.full v) (range_at t.ranges v) e (ranges v hv))) (h.point.numbers v hv)
  number p h v hv (Some w) e = subst (λ (r : Interval). Holds r (p.values v)) (sym (taken_some s.ranges (slice_index_or picks v None) (range_at t.full v) (range_at t.ranges v) w e (ranges v hv)))
      (h.numbers v w (subst (λ (n : ℕ). v < n) (sym long) hv) e)

  cut_kept : (p : Point) → IsInside whole.full whole.array_full p → AreCut (In whole) s picks (length picks) p → In t p
  cut_kept p i h = record {
    some = same ∙ h.some;
    kept = kt;
    numbers = λ v hv. number p h v hv (slice_index_or picks v None) refl;
    cells = h.point.cells;
  }

  pub taken_exactly : Exactly t (Projected (In s) picks arrays)
  taken_exactly = projected s whole t picks arrays k hp ha refl refl along drawn (record { made = cut_made; kept = cut_kept })

-- ---- the ranges of two lists that are laid over

zero_add : (k : ℕ) → k ≡ 0 + k
zero_add k = omega arith

below_none : {P : Type 0} (k : ℕ) → k < 0 → P
below_none k h = absurd (omega arith)

less_more : (k n : ℕ) → suc k < suc n → k < n
less_more k n h = omega arith

more_less : (k n : ℕ) → k < n → suc k < suc n
more_less k n h = omega arith

taken_below : (count : ℕ) (xs : List Interval) (k : ℕ) → k < length (take count xs) → k < count
taken_below zero xs k h = below_none k h
taken_below (suc n) [] k h = below_none k h
taken_below (suc n) (x ∷ xs) zero h = omega arith
taken_below (suc n) (x ∷ xs) (suc k) h = more_less k n (taken_below n xs k (less_more k (length (take n xs)) h))

whole_taken : (count : ℕ) (xs : List Interval) (k : ℕ) → k < length (drop count xs) → count ≡ length (take count xs)
whole_taken zero xs k h = refl
whole_taken (suc n) [] k h = below_none k h
whole_taken (suc n) (x ∷ xs) k h = ap suc (whole_taken n xs k h)

same_taken : (count : ℕ) (xs ys : List Interval) → length xs ≡ length ys → length (take count xs) ≡ length (take count ys)
same_taken count xs ys e = length-take count xs ∙ ap (λ (n : ℕ). min count n) e ∙ sym (length-take count ys)

same_dropped : (count : ℕ) (xs ys : List Interval) → length xs ≡ length ys → length (drop count xs) ≡ length (drop count ys)
same_dropped count xs ys e = length-drop count xs ∙ ap (λ (n : ℕ). n - count) e ∙ sym (length-drop count ys)

part_of : (h m v : ℕ) → h ≤ v → v < h + m → v - h < m
part_of h m v a b = omega arith

module _ (full old : List Interval) (count : ℕ) (first second : List Interval) (long : length old ≡ length full) where
  abbrev group : List (Option ℕ)
  group = placed 0 (length (take count full)) (length first)

  abbrev singles : List (Option ℕ)
  singles = placed (length (take count full)) (length (drop count full)) (length second)

  abbrev all : List (Option ℕ)
  all = places_of (length (take count full)) (length (drop count full)) (length first) (length second)

  abbrev front : List Interval
  front = over (take count old) first

  abbrev back : List Interval
  back = over (drop count old) second

  abbrev Taken : Option ℕ → Interval → Interval → Type 0
  Taken o f r = IsTakenRange old o f r

  group_taken : (v : ℕ) → v < length first → Taken (slice_index_or group v None) (range_at first v) (range_at front v)
  group_taken v hv = elim (side v (length (take count full))) [
    | inl l ↦
        let l2 = subst (λ (n : ℕ). v < n) (sym (same_taken count old full long)) l in
        subst (λ (o : Option ℕ). Taken o (range_at first v) (range_at front v)) (sym (placed_here 0 (length (take count full)) (length first) v l hv))
        (over_here (take count old) first v nought l2 hv ∙ get_or-take count old v nought (taken_below count old v l2) ∙ ap (range_at old) (zero_add v))
    | inr g ↦ subst (λ (o : Option ℕ). Taken o (range_at first v) (range_at front v)) (sym (placed_past 0 (length (take count full)) (length first) v g))
        (over_past (take count old) first v nought (subst (λ (n : ℕ). n ≤ v) (sym (same_taken count old full long)) g))
  ]

  single_taken : (j : ℕ) → j < length second → Taken (slice_index_or singles j None) (range_at second j) (range_at back j)
  single_taken j hj = elim (side j (length (drop count full))) [
    | inl l ↦
        let l2 = subst (λ (n : ℕ). j < n) (sym (same_dropped count old full long)) l in
        subst (λ (o : Option ℕ). Taken o (range_at second j) (range_at back j)) (sym (placed_here (length (take count full)) (length (drop count full)) (length second) j l hj))
        (over_here (drop count old) second j nought l2 hj ∙ get_or-drop count old j nought ∙ ap (λ (c : ℕ). range_at old (c + j)) (whole_taken count full j l))
    | inr g ↦ subst (λ (o : Option ℕ). Taken o (range_at second j) (range_at back j)) (sym (placed_past (length (take count full)) (length (drop count full)) (length second) j g))
        (over_past (drop count old) second j nought (subst (λ (n : ℕ). n ≤ j) (sym (same_dropped count old full long)) g))
  ]

  pub both_taken : (v : ℕ) → v < length (first ++ second) → Taken (slice_index_or all v None) (range_at (first ++ second) v) (range_at (front ++ back) v)
  both_taken v hv = elim (side v (length first)) [
    | inl l ↦
        subst (λ (o : Option ℕ). Taken o (range_at (first ++ second) v) (range_at (front ++ back) v)) (sym (places_group (length (take count full)) (length (drop count full)) (length first) (length second) v l))
        (subst (λ (f : Interval). Taken (slice_index_or group v None) f (range_at (front ++ back) v)) (sym (get_or_append_left first second nought v l))
        (subst (λ (r : Interval). Taken (slice_index_or group v None) (range_at first v) r) (sym (get_or_append_left front back nought v (subst (λ (n : ℕ). v < n) (sym (over_length (take count old) first)) l))) (group_taken v l)))
    | inr g ↦
        subst (λ (o : Option ℕ). Taken o (range_at (first ++ second) v) (range_at (front ++ back) v)) (sym (places_single (length (take count full)) (length (drop count full)) (length first) (length second) v g))
        (subst (λ (f : Interval). Taken (slice_index_or singles (v - length first) None) f (range_at (front ++ back) v)) (sym (get_or-append_right first second (length first) v nought refl g))
        (subst (λ (r : Interval). Taken (slice_index_or singles (v - length first) None) (range_at second (v - length first)) r) (sym (get_or-append_right front back (length first) v nought (over_length (take count old) first) g))
        (single_taken (v - length first) (part_of (length first) (length second) v g (subst (λ (n : ℕ). v < n) (length-append first second) hv)))))
  ]

-- ---- summaries that are laid over

blank_at : (n a : ℕ) → cell_at (replicate n Empty) a ≡ Empty
blank_at zero a = refl
blank_at (suc n) zero = refl
blank_at (suc n) (suc a) = blank_at n a

allowed_lies : (full : Interval) (t : Summary) (z : ℤ) → CellsLie full t → Allows t z → Holds full z
allowed_lies full Empty z l h = absurd h
allowed_lies full (Range r) z l h = lies_holds full r z l h

cell_fits : (full : Interval) (s t : Summary) → t ≡ s → CellsLie full s → CellsLie full t × ((z : ℤ) → Allows t z ↔ (Allows s z × Holds full z))
cell_fits full s t e l = (
  subst (CellsLie full) (sym e) l,
  λ z. (λ h. let k = subst (λ (x : Summary). Allows x z) e h in (k, allowed_lies full s z l k), λ h. subst (λ (x : Summary). Allows x z) (sym e) h.0),
)

module _ (s : Spanned) (k : Kept s) (arrays : List Interval) (paired : (a : ℕ) → a < length s.array_full → a < length arrays → range_at arrays a ≡ range_at s.array_full a) where
  abbrev laid : List Summary
  laid = over s.cells (replicate (length arrays) Empty)

  pub laid_length : length laid ≡ length arrays
  laid_length = over_length s.cells (replicate (length arrays) Empty) ∙ length-replicate (length arrays) Empty

  pub laid_drawn : (a : ℕ) → a < length arrays → IsDrawnAt (cell_at s.cells) (slice_index_or (placed 0 (length s.array_full) (length arrays)) a None) (range_at arrays a) (cell_at laid a)
  laid_drawn a ha = elim (side a (length s.array_full)) [
    | inl l ↦ subst (λ (o : Option ℕ). IsDrawnAt (cell_at s.cells) o (range_at arrays a) (cell_at laid a)) (sym (placed_here 0 (length s.array_full) (length arrays) a l ha))
        (subst (λ (b : ℕ). IsDrawnAt (cell_at s.cells) (Some b) (range_at arrays a) (cell_at laid a)) (zero_add a)
        (cell_fits (range_at arrays a) (cell_at s.cells a) (cell_at laid a)
        (over_here s.cells (replicate (length arrays) Empty) a Empty (subst (λ (n : ℕ). a < n) (sym k.cells_long) l) (subst (λ (n : ℕ). a < n) (sym (length-replicate (length arrays) Empty)) ha))
        (subst (λ (f : Interval). CellsLie f (cell_at s.cells a)) (sym (paired a l ha)) (k.cells_lie a l))))
    | inr g ↦ subst (λ (o : Option ℕ). IsDrawnAt (cell_at s.cells) o (range_at arrays a) (cell_at laid a)) (sym (placed_past 0 (length s.array_full) (length arrays) a g))
        (over_past s.cells (replicate (length arrays) Empty) a Empty (subst (λ (n : ℕ). n ≤ a) (sym k.cells_long) g) ∙ blank_at (length arrays) a)
  ]

-- ---- as the code has it

module _ (s : Spanned) (k : Kept s) (count : ℕ) (first second arrays : List Interval) (paired : ArePaired (parted count s) (shape_of first second arrays)) where
  abbrev places : List (Option ℕ)
  places = places_of (length (take count s.full)) (length (drop count s.full)) (length first) (length second)

  abbrev cells_of : List Summary
  cells_of = over s.cells (replicate (length arrays) Empty)

  abbrev ranges_of : List Interval
  ranges_of = over (take count s.ranges) first ++ over (drop count s.ranges) second

  parts_length : length (take count s.full) + length (drop count s.full) ≡ length s.full
  parts_length = sym (length-append (take count s.full) (drop count s.full)) ∙ ap (λ (xs : List Interval). length xs) (take-append-drop count s.full)

  pub places_are : ArePicks (length s.full) places
  places_are = subst (λ (n : ℕ). ArePicks n places) parts_length (places_picks (length (take count s.full)) (length (drop count s.full)) (length first) (length second))

  -- the full ranges of what is paired are the same
  full_taken : (v : ℕ) → v < length (first ++ second) → IsTakenRange s.full (slice_index_or places v None) (range_at (first ++ second) v) (range_at (first ++ second) v)
  full_taken v hv = subst (λ (xs : List Interval). IsTakenRange s.full (slice_index_or places v None) (range_at (first ++ second) v) (range_at (xs ++ second) v)) (over_same (take count s.full) first nought paired.group)
      (subst (λ (ys : List Interval). IsTakenRange s.full (slice_index_or places v None) (range_at (first ++ second) v) (range_at (over (take count s.full) first ++ ys) v)) (over_same (drop count s.full) second nought paired.singles)
      (both_taken s.full s.full count first second refl v hv))

  ranges_length : length ranges_of ≡ length (first ++ second)
  ranges_length = length-append (over (take count s.ranges) first) (over (drop count s.ranges) second)
      ∙ ap (λ (n : ℕ). n + length (over (drop count s.ranges) second)) (over_length (take count s.ranges) first)
      ∙ ap (λ (n : ℕ). length first + n) (over_length (drop count s.ranges) second)
      ∙ sym (length-append first second)

  pub followed_kept : All IsNarrow first → All IsNarrow second → IsKept (first ++ second) arrays ranges_of cells_of
  followed_kept f g =
      let lie : (a : ℕ) → a < length arrays → CellsLie (range_at arrays a) (cell_at cells_of a) = λ a ha. drawn_lies (cell_at s.cells) (slice_index_or (placed 0 (length s.array_full) (length arrays)) a None) (range_at arrays a) (cell_at cells_of a) (laid_drawn s k arrays paired.arrays a ha) in
      record {
        ranges_long = ranges_length;
        cells_long = laid_length s k arrays paired.arrays;
        narrow = (kept_begin first second arrays cells_of f g (laid_length s k arrays paired.arrays) lie).narrow;
        ranges_lie = λ v hv. taken_lies s k (slice_index_or places v None) (range_at (first ++ second) v) (range_at ranges_of v) (λ w e. places_are.named v w e) (full_taken v hv) (both_taken s.full s.ranges count first second k.ranges_long v hv);
        cells_lie = lie;
      }

  module _ (t : Spanned) (kt : Kept t) (is : t ≡ record { full = first ++ second; array_full = arrays; ranges = ranges_of; cells = cells_of; empty = s.empty }) where
    pub followed_drawn : (a : ℕ) → a < length arrays → IsDrawnAt (cell_at s.cells) (slice_index_or (placed 0 (length s.array_full) (length arrays)) a None) (range_at arrays a) (cell_at t.cells a)
    followed_drawn a ha = subst (λ (u : Spanned). IsDrawnAt (cell_at s.cells) (slice_index_or (placed 0 (length s.array_full) (length arrays)) a None) (range_at arrays a) (cell_at u.cells a)) (sym is) (laid_drawn s k arrays paired.arrays a ha)

    pub followed_points : Exactly t (Projected (In s) places (placed 0 (length s.array_full) (length arrays)))
    followed_points = taken_exactly s t k kt places (placed 0 (length s.array_full) (length arrays))
        (places_length (length (take count s.full)) (length (drop count s.full)) (length first) (length second) ∙ sym (length-append first second) ∙ sym (ap (λ (u : Spanned). length u.full) is))
        (placed_length 0 (length s.array_full) (length arrays) ∙ sym (ap (λ (u : Spanned). length u.array_full) is))
        places_are (placed_picks (length s.array_full) (length arrays))
        (subst (λ (u : Spanned). (v : ℕ) → v < length u.full → IsTakenRange s.ranges (slice_index_or places v None) (range_at u.full v) (range_at u.ranges v)) (sym is) (both_taken s.full s.ranges count first second k.ranges_long))
        (subst (λ (u : Spanned). (a : ℕ) → a < length u.array_full → IsDrawnAt (cell_at s.cells) (slice_index_or (placed 0 (length s.array_full) (length arrays)) a None) (range_at u.array_full a) (cell_at u.cells a)) (sym is) (laid_drawn s k arrays paired.arrays))
        (ap (λ (u : Spanned). u.empty) is)
