-- Ranges and summaries that begin with given ranges are those that begin with the full ones, of which points within are left.
use Rattle.std.proofs.Common.{◌≡◌, ◌∙◌, ℕ, ◌+◌, ◌<◌, ℤ, ◌≤ℤ◌, List, length, Option, Some, None, false, refl, sym, ap, subst}
use Rattle.std.specs.Prelude.{slice_index_or}
use Rattle.wm_numbers.proofs.Order.{le_refl}
use Rattle.wm_interval.specs.declared.Interval.{Interval}
use Rattle.wm_interval.specs.Holds.{Holds, IsHullOf}
use Rattle.wm_arrays.specs.declared.summary.Summary.{Summary}
use Rattle.wm_domain.specs.Points.{Point, range_at}
use Rattle.wm_domain.specs.Changes.{IsValueOf}
use Rattle.wm_spans.specs.Spanned.{Spanned, cell_at, Lies, IsKept, Kept, In}
use Rattle.wm_spans.specs.Exact.{Exactly, AreDrawn, IsDrawnAt}
use Rattle.wm_spans.proofs.Listed.{lies_holds}
use Rattle.wm_spans.proofs.Picked.{drawn_exactly}
use Rattle.wm_tied.specs.Projecting.{ArePicked, IsDrawnRange, AreWithin}

-- the same with the full ranges
abbrev pub whole_of : Spanned → Spanned
whole_of s = record { full = s.full; array_full = s.array_full; ranges = s.full; cells = s.cells; empty = false }

own_lies : (r : Interval) → Lies r r
own_lies r = record { above = le_refl r.low; below = le_refl r.high }

whole_kept : (s : Spanned) → Kept s → Kept (whole_of s)
whole_kept s k = record { ranges_long = refl; cells_long = k.cells_long; narrow = k.narrow; ranges_lie = λ v hv. own_lies (range_at s.full v); cells_lie = k.cells_lie }

pub whole_drawn : (s : Spanned) (arrays : List Interval) (old : ℕ → Summary) (picks : List (Option ℕ)) → Kept s → s.array_full ≡ arrays
    → ((a : ℕ) → a < length arrays → IsDrawnAt old (slice_index_or picks a None) (range_at arrays a) (cell_at s.cells a)) → Exactly (whole_of s) (AreDrawn old picks (length arrays))
whole_drawn s arrays old picks k e each =
    subst (λ (xs : List Interval). Exactly (whole_of s) (AreDrawn old picks (length xs))) e
    (drawn_exactly (whole_of s) s.full s.array_full s.cells old picks refl (whole_kept s k)
    (subst (λ (xs : List Interval). (a : ℕ) → a < length xs → IsDrawnAt old (slice_index_or picks a None) (range_at xs a) (cell_at s.cells a)) (sym e) each))

pub whole_within : (s : Spanned) (ranges : List Interval) → Kept s → s.empty ≡ false → s.ranges ≡ ranges → Exactly s (AreWithin (In (whole_of s)) ranges (length ranges))
whole_within s ranges k some e = subst (λ (rs : List Interval). Exactly s (AreWithin (In (whole_of s)) rs (length rs))) e (record {
  made = λ p i. record {
    point = record {
      some = refl;
      kept = whole_kept s k;
      numbers = λ v hv. lies_holds (range_at s.full v) (range_at s.ranges v) (p.values v) (k.ranges_lie v hv) (i.numbers v hv);
      cells = i.cells;
    };
    numbers = λ v hv. i.numbers v (subst (λ (n : ℕ). v < n) k.ranges_long hv);
  };
  kept = λ p f h. record {
    some = some;
    kept = k;
    numbers = λ v hv. h.numbers v (subst (λ (n : ℕ). v < n) (sym k.ranges_long) hv);
    cells = h.point.cells;
  };
})

-- ---- drawn ranges lie in the full ones

hull_inside : (Has : Point → Type 0) (v : ℕ) (full r : Interval) → IsHullOf (IsValueOf Has v) r → ((p : Point) → Has p → Holds full (p.values v)) → Lies full r
hull_inside Has v full r h all =
    let a = h.low_is.attained in
    let b = h.high_is.attained in
    record {
      above = subst (λ (y : ℤ). full.low ≤ℤ y) a.gives (all a.x a.is).above;
      below = subst (λ (y : ℤ). y ≤ℤ full.high) b.gives (all b.x b.is).below;
    }

one_inside : (Has : Point → Type 0) (o : Option ℕ) (full r : Interval) → IsDrawnRange Has o full r → ((p : Point) → Has p → (v : ℕ) → o ≡ Some v → Holds full (p.values v)) → Lies full r
one_inside Has None full r d all = subst (Lies full) (sym d) (own_lies full)
one_inside Has (Some v) full r d all = hull_inside Has v full r d (λ p i. all p i v refl)

pub drawn_inside : (Has : Point → Type 0) (full : List Interval) (picks : List (Option ℕ)) (first : ℕ) (ranges : List Interval)
    → ((k : ℕ) → k < length full → IsDrawnRange Has (slice_index_or picks (first + k) None) (range_at full k) (range_at ranges k))
    → ((p : Point) → Has p → ArePicked Has full picks first (length full) p)
    → (v : ℕ) → v < length full → Lies (range_at full v) (range_at ranges v)
drawn_inside Has full picks first ranges each lies v hv = one_inside Has (slice_index_or picks (first + v) None) (range_at full v) (range_at ranges v) (each v hv) (λ p i w e. (lies p i).numbers v w hv e)
