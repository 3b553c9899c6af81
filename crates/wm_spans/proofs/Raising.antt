-- Joins and inclusion by their ranges and summaries.
use Rattle.std.proofs.Common.{◌≡◌, ◌≢◌, ◌⊎◌, inl, inr, ℕ, ◌<◌, ℤ, ◌≤ℤ◌, neg_ℤ, List, length, Bool, false, true, sym, ◌∙◌, ap, subst, refl, arith, Some, None, Option}
use Rattle.std.specs.Prelude.{◌↔◌, IsTrue}
use Rattle.std.specs.Int.{int_max, int_min}
use Rattle.std.proofs.lemmas.Int.{ints, clamps}
use Rattle.wm_numbers.proofs.Order.{le_refl, min_cases, max_cases, neg_mono}
use Rattle.wm_numbers.specs.Within.{Within}
use Rattle.wm_interval.specs.declared.Interval.{Interval}
use Rattle.wm_interval.specs.Holds.{Holds, IsHullOf}
use Rattle.wm_arrays.specs.declared.summary.Summary.{Summary}
use Rattle.wm_arrays.specs.declared.summary.Summary.TheVariants.{Empty, Range}
use Rattle.wm_arrays.specs.Meaning.{Allows, IsIncluded, IsEither, IsLeastFor}
use Rattle.wm_domain.specs.declared.form.Term.{Term}
use Rattle.wm_domain.specs.Points.{Point, range_at, AllowsCell}
use Rattle.wm_domain.specs.Forms.{signed, term_value}
use Rattle.wm_domain.specs.States.{IsReached, IsCellTold}
use Rattle.wm_domain.specs.Changes.{InEither}
use Rattle.wm_spans.specs.Spanned.{Spanned, cell_at, Lies, Kept, In}
use Rattle.wm_spans.specs.Exact.{IsJoined, IsRaised, IsBelow, IsSpanned}
use Rattle.wm_spans.proofs.Listed.{lies_holds, not_both}
use Rattle.wm_spans.proofs.Writing.{with_cell, cell_moved-here}
use Rattle.wm_spans.proofs.Ends.{lowest, highest, lowest_in, highest_in, in_cell}

joined_here : (a b r : Interval) (z : ℤ) → IsJoined a b r → Holds a z → Holds r z
joined_here a b r z j h = record { above = omega (arith, ints, clamps, j.low, h.above); below = omega (arith, ints, clamps, j.high, h.below) }

joined_there : (a b r : Interval) (z : ℤ) → IsJoined a b r → Holds b z → Holds r z
joined_there a b r z j h = record { above = omega (arith, ints, clamps, j.low, h.above); below = omega (arith, ints, clamps, j.high, h.below) }

least_allows : (P : ℤ → Type 0) (t : Summary) (z : ℤ) → IsLeastFor P t → P z → Allows t z
least_allows P Empty z l h = l z h
least_allows P (Range i) z l h = record { above = l.low_is.least z h; below = l.high_is.greatest z h }

either_cell : (a b t : Summary) (c : Option ℤ) → IsLeastFor (IsEither a b) t → AllowsCell a c ⊎ AllowsCell b c → AllowsCell t c
either_cell a b t None l h = tt
either_cell a b t (Some z) l h = least_allows (IsEither a b) t z l h

low_below : (a b r : Interval) (z : ℤ) → IsJoined a b r → Holds r z → (a.low ≤ℤ z) ⊎ (b.low ≤ℤ z)
low_below a b r z j h = elim (min_cases a.low b.low) [
  | inl y ↦ inl (subst (λ (x : ℤ). x ≤ℤ z) (j.low ∙ y.1) h.above)
  | inr y ↦ inr (subst (λ (x : ℤ). x ≤ℤ z) (j.low ∙ y.1) h.above)
]

high_above : (a b r : Interval) (z : ℤ) → IsJoined a b r → Holds r z → (z ≤ℤ a.high) ⊎ (z ≤ℤ b.high)
high_above a b r z j h = elim (max_cases a.high b.high) [
  | inl y ↦ inl (subst (λ (x : ℤ). z ≤ℤ x) (j.high ∙ y.1) h.below)
  | inr y ↦ inr (subst (λ (x : ℤ). z ≤ℤ x) (j.high ∙ y.1) h.below)
]

module _ (s t u : Spanned) (ks : Kept s) (kt : Kept t) (es : s.empty ≡ false) (et : t.empty ≡ false) (full : s.full ≡ t.full) (array_full : s.array_full ≡ t.array_full) (r : IsRaised s t u) where
  here_len : (v : ℕ) → v < length u.full → v < length s.full
  here_len v h = subst (λ (xs : List Interval). v < length xs) r.full h

  here_arrays : (a : ℕ) → a < length u.array_full → a < length s.array_full
  here_arrays a h = subst (λ (xs : List Interval). a < length xs) r.array_full h

  pub raised_kept : (p : Point) → InEither (In s) (In t) p → In u p
  raised_kept p (inl i) = record {
    some = r.empty ∙ es;
    kept = r.kept;
    numbers = λ v h. joined_here (range_at s.ranges v) (range_at t.ranges v) (range_at u.ranges v) (p.values v) (r.ranges v (here_len v h)) (i.numbers v (here_len v h));
    cells = λ a h. either_cell (cell_at s.cells a) (cell_at t.cells a) (cell_at u.cells a) (p.cells a) (r.summaries a (here_arrays a h)) (inl (i.cells a (here_arrays a h)));
  }
  raised_kept p (inr i) = record {
    some = r.empty ∙ es;
    kept = r.kept;
    numbers = λ v h. joined_there (range_at s.ranges v) (range_at t.ranges v) (range_at u.ranges v) (p.values v) (r.ranges v (here_len v h)) (i.numbers v (subst (λ (xs : List Interval). v < length xs) full (here_len v h)));
    cells = λ a h. either_cell (cell_at s.cells a) (cell_at t.cells a) (cell_at u.cells a) (p.cells a) (r.summaries a (here_arrays a h)) (inr (i.cells a (subst (λ (xs : List Interval). a < length xs) array_full (here_arrays a h))));
  }

  reached : (p : Point) (b : Bool) (v : ℕ) → In u p → v < length s.full → IsReached (InEither (In s) (In t)) (λ x. signed b (x v)) p
  reached p false v i h = elim (high_above (range_at s.ranges v) (range_at t.ranges v) (range_at u.ranges v) (p.values v) (r.ranges v h) (i.numbers v (subst (λ (xs : List Interval). v < length xs) (sym r.full) h))) [
    | inl y ↦ record { x = highest s; is = inl (highest_in s ks es); reaches = y }
    | inr y ↦ record { x = highest t; is = inr (highest_in t kt et); reaches = y }
  ]
  reached p true v i h = elim (low_below (range_at s.ranges v) (range_at t.ranges v) (range_at u.ranges v) (p.values v) (r.ranges v h) (i.numbers v (subst (λ (xs : List Interval). v < length xs) (sym r.full) h))) [
    | inl y ↦ record { x = lowest s; is = inl (lowest_in s ks es); reaches = neg_mono y }
    | inr y ↦ record { x = lowest t; is = inr (lowest_in t kt et); reaches = neg_mono y }
  ]

  -- a point of one of the two with this set cell
  record SetCell (a : ℕ) (z : ℤ) : Type 0 where
    x : Point
    is : InEither (In s) (In t) x
    cell : x.cells a ≡ Some z

  set_either : (a : ℕ) (z : ℤ) → IsEither (cell_at s.cells a) (cell_at t.cells a) z → SetCell a z
  set_either a z (inl h) = record { x = with_cell (lowest s) a (Some z); is = inl (in_cell s (lowest s) a z (lowest_in s ks es) h); cell = cell_moved-here (lowest s).cells a (Some z) }
  set_either a z (inr h) = record { x = with_cell (lowest t) a (Some z); is = inr (in_cell t (lowest t) a z (lowest_in t kt et) h); cell = cell_moved-here (lowest t).cells a (Some z) }

  cell_between : (a : ℕ) (c : Option ℤ) (w : Summary) → IsLeastFor (IsEither (cell_at s.cells a) (cell_at t.cells a)) w → AllowsCell w c → IsCellTold (InEither (In s) (In t)) a c
  cell_between a None w l h = tt
  cell_between a (Some z) Empty l h = absurd h
  cell_between a (Some z) (Range i) l h =
      let low = set_either a i.low l.low_is.attained in
      let high = set_either a i.high l.high_is.attained in
      record {
        x = low.x;
        y = high.x;
        x_is = low.is;
        y_is = high.is;
        low = i.low;
        high = i.high;
        x_cell = low.cell;
        y_cell = high.cell;
        above = h.above;
        below = h.below;
      }

  pub raised_spanned : (p : Point) → In u p → IsSpanned (length s.full) (length s.array_full) (InEither (In s) (In t)) p
  raised_spanned p i = record {
    some = lowest s;
    some_is = inl (lowest_in s ks es);
    each = λ w h. reached p w.negative w.variable i h;
    cells = λ a h. cell_between a (p.cells a) (cell_at u.cells a) (r.summaries a h) (i.cells a (subst (λ (xs : List Interval). a < length xs) (sym r.array_full) h));
  }

-- ---- one of the two has no point

-- a point is reached by itself
own_reached : (P : Point → Type 0) (p : Point) (t : Term) → P p → IsReached P (λ x. term_value x t) p
own_reached P p t h = record { x = p; is = h; reaches = le_refl (term_value p.values t) }

own_cell : (P : Point → Type 0) (a : ℕ) (p : Point) → P p → (c : Option ℤ) → p.cells a ≡ c → IsCellTold P a c
own_cell P a p h None e = tt
own_cell P a p h (Some z) e = record { x = p; y = p; x_is = h; y_is = h; low = z; high = z; x_cell = e; y_cell = e; above = le_refl z; below = le_refl z }

pub own_spanned : (n m : ℕ) (P : Point → Type 0) (p : Point) → P p → IsSpanned n m P p
own_spanned n m P p h = record { some = p; some_is = h; each = λ t ht. own_reached P p t h; cells = λ a ha. own_cell P a p h (p.cells a) refl }

-- ---- inclusion

lies_from : (a b : Interval) → Holds b a.low → Holds b a.high → Lies b a
lies_from a b h k = record { above = h.above; below = k.below }

module _ (s t : Spanned) (ks : Kept s) (kt : Kept t) (full : s.full ≡ t.full) (array_full : s.array_full ≡ t.array_full) (es : s.empty ≡ false) (et : t.empty ≡ false) where
  below_within : IsBelow s t → (p : Point) → In s p → In t p
  below_within b p i = record {
    some = et;
    kept = kt;
    numbers = λ v h. let hs = subst (λ (xs : List Interval). v < length xs) (sym full) h in lies_holds (range_at t.ranges v) (range_at s.ranges v) (p.values v) (b.ranges v hs) (i.numbers v hs);
    cells = λ a h. let hs = subst (λ (xs : List Interval). a < length xs) (sym array_full) h in wider (cell_at s.cells a) (cell_at t.cells a) (p.cells a) (b.summaries a hs) (i.cells a hs);
  }
    where
      wider : (x y : Summary) (c : Option ℤ) → IsIncluded x y → AllowsCell x c → AllowsCell y c
      wider x y None h k = tt
      wider x y (Some z) h k = h z k

  within_below : ((p : Point) → In s p → In t p) → IsBelow s t
  within_below h = record {
    ranges = λ v hv. let ht = subst (λ (xs : List Interval). v < length xs) full hv in
        lies_from (range_at s.ranges v) (range_at t.ranges v) ((h (lowest s) (lowest_in s ks es)).numbers v ht) ((h (highest s) (highest_in s ks es)).numbers v ht);
    summaries = λ a ha z w.
        let i = h (with_cell (lowest s) a (Some z)) (in_cell s (lowest s) a z (lowest_in s ks es) w) in
        subst (AllowsCell (cell_at t.cells a)) (cell_moved-here (lowest s).cells a (Some z)) (i.cells a (subst (λ (xs : List Interval). a < length xs) array_full ha));
  }

  pub included : (is : Bool) → (IsTrue is ↔ IsBelow s t) → IsTrue is ↔ ((p : Point) → In s p → In t p)
  included is h = (λ y. below_within (h.0 y), λ y. h.1 (within_below y))

pub included_empty : (s t : Spanned) → s.empty ≡ true → IsTrue true ↔ ((p : Point) → In s p → In t p)
included_empty s t e = (λ y p i. not_both (sym e ∙ i.some), λ y. refl)

pub included_in_empty : (s t : Spanned) → Kept s → s.empty ≡ false → t.empty ≡ true → IsTrue false ↔ ((p : Point) → In s p → In t p)
included_in_empty s t ks es et = (λ y. never y, λ h. not_both (sym et ∙ (h (lowest s) (lowest_in s ks es)).some))
  where
    never : {P : Type 0} → IsTrue false → P
    never y = cc
