-- What exactly the calls on one variable leave.
use Rattle.std.proofs.Common.{◌≡◌, ◌≢◌, ◌⊎◌, inl, inr, ℕ, ◌<◌, ℤ, ◌≤ℤ◌, List, length, set, Bool, false, true, sym, ◌∙◌, ap, subst, refl, arith, Some, None, Option}
use Rattle.std.specs.Prelude.{◌↔◌}
use Rattle.std.proofs.lemmas.Int.{ints}
use Rattle.std.proofs.lemmas.Bool.{cases_eq}
use Rattle.wm_numbers.proofs.Order.{le_refl}
use Rattle.wm_interval.specs.declared.Interval.{Interval}
use Rattle.wm_interval.specs.Holds.{Holds, InBoth}
use Rattle.wm_domain.specs.Points.{Point, range_at, IsInside, SameBut, AllowsCell}
use Rattle.wm_domain.specs.Changes.{Freed}
use Rattle.wm_domain.proofs.Moving.{with_value, with_value-but, moved-here, moved-there, but-but, same_but_all}
use Rattle.wm_spans.specs.Spanned.{Spanned, cell_at, Lies, IsKept, Kept, In}
use Rattle.wm_spans.specs.Exact.{Exactly, Bounded}
use Rattle.wm_spans.proofs.Listed.{kept_put, each_range, number_here, number_there, in_full, lies_holds, not_both}

-- the common part of two ranges lies in each
pub common_lies : (full r m : Interval) → ((z : ℤ) → Holds m z ↔ InBoth full r z) → Lies full m
common_lies full r m h = record {
  above = ((h m.low).0 (record { above = le_refl m.low; below = m.ordered })).0.above;
  below = ((h m.high).0 (record { above = m.ordered; below = le_refl m.high })).0.below;
}

pub lies_through : (full r m : Interval) → Lies full r → Lies r m → Lies full m
lies_through full r m h k = record { above = omega (arith, ints, h.above, k.above); below = omega (arith, ints, h.below, k.below) }

-- no point is left
pub nothing : (s : Spanned) (P : Point → Type 0) → ((p : Point) → IsInside s.full s.array_full p → P p → ⊥) → Exactly (record s { empty = true }) P
nothing s P h = record {
  made = λ p i. not_both i.some;
  kept = λ p i w. absurd (h p i w);
}

pub cut_none : (s : Spanned) (v : ℕ) (r : Interval) → v < length s.full → ((z : ℤ) → InBoth (range_at s.ranges v) r z → ⊥) → Exactly (record s { empty = true }) (Bounded (In s) v r)
cut_none s v r hv none = nothing s (Bounded (In s) v r) (λ p i b. none (p.values v) (b.point.numbers v hv, b.bounded))

module _ (s : Spanned) (v : ℕ) (hv : v < length s.full) (k : Kept s) where
  here : v < length s.ranges
  here = subst (λ (n : ℕ). v < n) (sym k.ranges_long) hv

  -- the points after variable v got another range within its full one
  put_in : (m : Interval) (p : Point) → Lies (range_at s.full v) m → (was : Point) → In s was → SameBut v was p → Holds m (p.values v) → In (record s { ranges = set s.ranges v m }) p
  put_in m p l was w b h = record {
    some = w.some;
    kept = kept_put s.full s.array_full s.ranges s.cells v m k hv l;
    numbers = each_range (λ u r. Holds r (p.values u)) s.ranges v (length s.full) m here h (λ u hu ne. subst (Holds (range_at s.ranges u)) (sym (b.numbers u ne)) (w.numbers u hu));
    cells = λ a ha. subst (AllowsCell (cell_at s.cells a)) (sym (b.cells a)) (w.cells a ha);
  }

  -- a point before, where variable v had another number of its range
  put_out : (m : Interval) (p was : Point) → In (record s { ranges = set s.ranges v m }) p → SameBut v was p → Holds (range_at s.ranges v) (was.values v) → In s was
  put_out m p was i b h = record {
    some = i.some;
    kept = k;
    numbers = λ u hu. elim (cases_eq u v) [
      | inl e ↦ subst (λ (w : ℕ). Holds (range_at s.ranges w) (was.values w)) (sym e) h
      | inr ne ↦ subst (Holds (range_at s.ranges u)) (b.numbers u ne) (number_there s.ranges v u m (p.values u) ne (i.numbers u hu))
    ];
    cells = λ a ha. subst (AllowsCell (cell_at s.cells a)) (b.cells a) (i.cells a ha);
  }

  pub cut_some : (r m : Interval) → ((z : ℤ) → Holds m z ↔ InBoth (range_at s.ranges v) r z) → Exactly (record s { ranges = set s.ranges v m }) (Bounded (In s) v r)
  cut_some r m each = record {
    made = λ p i.
        let both = (each (p.values v)).0 (number_here s.ranges v m (p.values v) here (i.numbers v hv)) in
        record { point = put_out m p p i (same_but_all v p) both.0; bounded = both.1 };
    kept = λ p i b. put_in m p (lies_through (range_at s.full v) (range_at s.ranges v) m (k.ranges_lie v hv) (common_lies (range_at s.ranges v) r m each)) p b.point (same_but_all v p)
        ((each (p.values v)).1 (b.point.numbers v hv, b.bounded));
  }

  pub free_none : (r : Interval) → ((z : ℤ) → InBoth (range_at s.full v) r z → ⊥) → Exactly (record s { empty = true }) (Freed (In s) v r)
  free_none r none = nothing s (Freed (In s) v r) (λ p i f. none (p.values v) (i.numbers v hv, f.value))

  pub free_some : (r m : Interval) → ((z : ℤ) → Holds m z ↔ InBoth (range_at s.full v) r z) → Exactly (record s { ranges = set s.ranges v m }) (Freed (In s) v r)
  free_some r m each = record {
    made = λ p i.
        let z = (range_at s.ranges v).low in
        let both = (each (p.values v)).0 (number_here s.ranges v m (p.values v) here (i.numbers v hv)) in
        let b = but-but v p (with_value p v z) p (with_value-but p v z) (same_but_all v p) in
        record {
          was = with_value p v z;
          point = put_out m p (with_value p v z) i b (subst (Holds (range_at s.ranges v)) (sym (moved-here p.values v z)) (record { above = le_refl z; below = (range_at s.ranges v).ordered }));
          others = b;
          value = both.1;
        };
    kept = λ p i f. put_in m p (common_lies (range_at s.full v) r m each) f.was f.point f.others ((each (p.values v)).1 (i.numbers v hv, f.value));
  }

-- ---- the same, as the code has it: x is the range that was found, and t what was made

module _ (s t : Spanned) (v : ℕ) (hv : v < length s.full) (r x : Interval) where
  pub cut_lost : x ≡ range_at s.ranges v → ((z : ℤ) → InBoth x r z → ⊥) → t ≡ record s { empty = true } → Exactly t (Bounded (In s) v r)
  cut_lost e none te = subst (λ (u : Spanned). Exactly u (Bounded (In s) v r)) (sym te) (cut_none s v r hv (λ z b. none z (subst (λ (y : Interval). InBoth y r z) (sym e) b)))

  pub free_lost : x ≡ range_at s.full v → ((z : ℤ) → InBoth x r z → ⊥) → t ≡ record s { empty = true } → Exactly t (Freed (In s) v r)
  free_lost e none te = subst (λ (u : Spanned). Exactly u (Freed (In s) v r)) (sym te) (nothing s (Freed (In s) v r) (λ p i f. none (p.values v) (subst (λ (y : Interval). InBoth y r (p.values v)) (sym e) (i.numbers v hv, f.value))))

  module _ (k : Kept s) (m : Interval) (each : (z : ℤ) → Holds m z ↔ InBoth x r z) where
    pub cut_found_lies : x ≡ range_at s.ranges v → Lies (range_at s.full v) m
    cut_found_lies e = lies_through (range_at s.full v) x m (subst (Lies (range_at s.full v)) (sym e) (k.ranges_lie v hv)) (common_lies x r m each)

    pub free_found_lies : x ≡ range_at s.full v → Lies (range_at s.full v) m
    free_found_lies e = subst (λ (y : Interval). Lies y m) e (common_lies x r m each)

    pub cut_found : x ≡ range_at s.ranges v → t ≡ record s { ranges = set s.ranges v m } → Exactly t (Bounded (In s) v r)
    cut_found e te = subst (λ (u : Spanned). Exactly u (Bounded (In s) v r)) (sym te) (cut_some s v hv k r m (subst (λ (y : Interval). (z : ℤ) → Holds m z ↔ InBoth y r z) e each))

    pub free_found : x ≡ range_at s.full v → t ≡ record s { ranges = set s.ranges v m } → Exactly t (Freed (In s) v r)
    free_found e te = subst (λ (u : Spanned). Exactly u (Freed (In s) v r)) (sym te) (free_some s v hv k r m (subst (λ (y : Interval). (z : ℤ) → Holds m z ↔ InBoth y r z) e each))
