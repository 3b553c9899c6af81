-- One turn of the loop over drawn ranges, and equal views of one projection.
use Rattle.std.proofs.Common.{◌≡◌, ◌≢◌, inl, inr, ℕ, ◌+◌, ◌<◌, List, length, Option, Some, None, sym, subst, arith}
use Rattle.std.specs.Prelude.{slice_index_or, slice_set}
use Rattle.std.proofs.lemmas.Bool.{cases_eq}
use Rattle.wm_interval.specs.declared.Interval.{Interval}
use Rattle.wm_interval.specs.Holds.{Holds}
use Rattle.wm_domain.specs.Points.{Point, range_at, IsNarrow}
use Rattle.wm_octagon.specs.View.{OctagonView, IsLeast}
use Rattle.wm_octagon.specs.Projecting.{ProjectedOf}
use Rattle.wm_spans.specs.Spanned.{Spanned, cell_at}
use Rattle.wm_spans.specs.Exact.{Exactly, AreDrawn}
use Rattle.wm_spans.proofs.Listed.{range_same, range_other}
use Rattle.wm_tied.specs.Projecting.{IsPickedIn, IsDrawnRange}

before : (j k : ℕ) → j < k + 1 → j ≢ k → j < k
before j k h ne = omega arith

pub drawn_narrow : (now : List Interval) (k n : ℕ) (r : Interval) → length now ≡ n → k < n → IsNarrow r → ((j : ℕ) → j < n → IsNarrow (range_at now j)) → (j : ℕ) → j < n → IsNarrow (range_at (slice_set now k r) j)
drawn_narrow now k n r long hk h all j hj = elim (cases_eq j k) [
  | inl e ↦ subst (λ (i : ℕ). IsNarrow (range_at (slice_set now k r) i)) (sym e) (subst IsNarrow (sym (range_same now k r (subst (λ (i : ℕ). k < i) (sym long) hk))) h)
  | inr ne ↦ subst IsNarrow (sym (range_other now k j r ne)) (all j hj)
]

pub drawn_each : (Has : Point → Type 0) (picks : List (Option ℕ)) (first : ℕ) (full now : List Interval) (k : ℕ) (o : Option ℕ) (x r : Interval) → length now ≡ length full → k < length full → o ≡ slice_index_or picks (first + k) None → x ≡ range_at full k → IsDrawnRange Has o x r
    → ((j : ℕ) → j < k → IsDrawnRange Has (slice_index_or picks (first + j) None) (range_at full j) (range_at now j))
    → (j : ℕ) → j < k + 1 → IsDrawnRange Has (slice_index_or picks (first + j) None) (range_at full j) (range_at (slice_set now k r) j)
drawn_each Has picks first full now k o x r long hk eo ex h all j hj = elim (cases_eq j k) [
  | inl e ↦ subst (λ (i : ℕ). IsDrawnRange Has (slice_index_or picks (first + i) None) (range_at full i) (range_at (slice_set now k r) i)) (sym e)
      (subst (λ (y : Interval). IsDrawnRange Has (slice_index_or picks (first + k) None) (range_at full k) y) (sym (range_same now k r (subst (λ (i : ℕ). k < i) (sym long) hk)))
      (subst (λ (y : Interval). IsDrawnRange Has (slice_index_or picks (first + k) None) y r) ex (subst (λ (q : Option ℕ). IsDrawnRange Has q x r) eo h)))
  | inr ne ↦ subst (λ (y : Interval). IsDrawnRange Has (slice_index_or picks (first + j) None) (range_at full j) y) (sym (range_other now k j r ne)) (all j (before j k hj ne))
]

pub lying_each : (Has : Point → Type 0) (picks : List (Option ℕ)) (first : ℕ) (full : List Interval) (k : ℕ) (x : Interval) → x ≡ range_at full k → ((p : Point) → Has p → IsPickedIn Has x (slice_index_or picks (first + k) None) p)
    → ((p : Point) → Has p → (j v : ℕ) → j < k → slice_index_or picks (first + j) None ≡ Some v → Holds (range_at full j) (p.values v))
    → (p : Point) → Has p → (j v : ℕ) → j < k + 1 → slice_index_or picks (first + j) None ≡ Some v → Holds (range_at full j) (p.values v)
lying_each Has picks first full k x ex one all p i j v hj e = elim (cases_eq j k) [
  | inl y ↦ subst (λ (n : ℕ). Holds (range_at full n) (p.values v)) (sym y) (subst (λ (r : Interval). Holds r (p.values v)) ex ((one p i).number v (subst (λ (n : ℕ). slice_index_or picks (first + n) None ≡ Some v) y e)))
  | inr ne ↦ all p i j v (before j k hj ne) e
]

pub least_as : (o t u : OctagonView) (ks ls : List (Option ℕ)) (rs qs : List Interval) → t ≡ u → ks ≡ ls → rs ≡ qs → IsLeast o (ProjectedOf t ks rs) → IsLeast o (ProjectedOf u ls qs)
least_as o t u ks ls rs qs e f g h = subst (λ (x : OctagonView). IsLeast o (ProjectedOf x ls qs)) e (subst (λ (y : List (Option ℕ)). IsLeast o (ProjectedOf t y qs)) f (subst (λ (z : List Interval). IsLeast o (ProjectedOf t ks z)) g h))

pub drawn_as : (s t u : Spanned) (arrays : List (Option ℕ)) (n : ℕ) → t ≡ u → Exactly s (AreDrawn (cell_at t.cells) arrays n) → Exactly s (AreDrawn (cell_at u.cells) arrays n)
drawn_as s t u arrays n e h = subst (λ (x : Spanned). Exactly s (AreDrawn (cell_at x.cells) arrays n)) e h
