-- One turn of the loops over ranges and summaries.
use Rattle.std.proofs.Common.{◌≡◌, ◌≢◌, inl, inr, ℕ, ◌+◌, ◌<◌, ◌≤◌, ℤ, ◌≤ℤ◌, List, length, set, Bool, false, true, sym, ◌∙◌, ap, subst, refl, arith}
use Rattle.std.specs.Prelude.{◌↔◌, IsTrue}
use Rattle.std.proofs.lemmas.Bool.{cases_eq}
use Rattle.wm_interval.specs.declared.Interval.{Interval}
use Rattle.wm_arrays.specs.declared.summary.Summary.{Summary}
use Rattle.wm_arrays.specs.Meaning.{IsLeastFor, IsEither, IsIncluded}
use Rattle.wm_domain.specs.Points.{range_at}
use Rattle.wm_spans.specs.Spanned.{cell_at, Lies}
use Rattle.wm_spans.specs.Exact.{IsJoined}
use Rattle.wm_spans.proofs.Listed.{range_same, range_other, cell_same, cell_other}

never : {P : Type 0} → IsTrue false → P
never t = cc

less_or : (j v : ℕ) → j < v + 1 → j ≢ v → j < v
less_or j v h ne = omega arith

more_not : (j v : ℕ) → v + 1 ≤ j → j ≢ v
more_not j v h = omega arith

less_of : (j v : ℕ) → v + 1 ≤ j → v ≤ j
less_of j v h = omega arith

-- joined so far, and the rest as before
pub ranges_turn : (was now others : List Interval) (v : ℕ) (x y r : Interval) (made : List Interval) → v < length now → x ≡ range_at now v → y ≡ range_at others v → made ≡ set now v r → IsJoined x y r
    → ((j : ℕ) → j < v → IsJoined (range_at was j) (range_at others j) (range_at now j)) → ((j : ℕ) → v ≤ j → range_at now j ≡ range_at was j)
    → (j : ℕ) → j < v + 1 → IsJoined (range_at was j) (range_at others j) (range_at made j)
ranges_turn was now others v x y r made hv ex ey em join done rest j h = elim (cases_eq j v) [
  | inl e ↦ subst (λ (k : ℕ). IsJoined (range_at was k) (range_at others k) (range_at made k)) (sym e)
      (subst (λ (w : Interval). IsJoined (range_at was v) (range_at others v) w) (sym (ap (λ (xs : List Interval). range_at xs v) em ∙ range_same now v r hv))
      (subst (λ (w : Interval). IsJoined w (range_at others v) r) (ex ∙ rest v (own v)) (subst (λ (w : Interval). IsJoined x w r) ey join)))
  | inr ne ↦ subst (λ (w : Interval). IsJoined (range_at was j) (range_at others j) w) (sym (ap (λ (xs : List Interval). range_at xs j) em ∙ range_other now v j r ne)) (done j (less_or j v h ne))
]
  where
    own : (v : ℕ) → v ≤ v
    own v = omega arith

pub ranges_rest : (was now : List Interval) (v : ℕ) (r : Interval) (made : List Interval) → made ≡ set now v r → ((j : ℕ) → v ≤ j → range_at now j ≡ range_at was j) → (j : ℕ) → v + 1 ≤ j → range_at made j ≡ range_at was j
ranges_rest was now v r made em rest j h = ap (λ (xs : List Interval). range_at xs j) em ∙ range_other now v j r (more_not j v h) ∙ rest j (less_of j v h)

pub cells_turn : (was now others : List Summary) (v : ℕ) (x y r : Summary) (made : List Summary) → v < length now → x ≡ cell_at now v → y ≡ cell_at others v → made ≡ set now v r → IsLeastFor (IsEither x y) r
    → ((j : ℕ) → j < v → IsLeastFor (IsEither (cell_at was j) (cell_at others j)) (cell_at now j)) → ((j : ℕ) → v ≤ j → cell_at now j ≡ cell_at was j)
    → (j : ℕ) → j < v + 1 → IsLeastFor (IsEither (cell_at was j) (cell_at others j)) (cell_at made j)
cells_turn was now others v x y r made hv ex ey em join done rest j h = elim (cases_eq j v) [
  | inl e ↦ subst (λ (k : ℕ). IsLeastFor (IsEither (cell_at was k) (cell_at others k)) (cell_at made k)) (sym e)
      (subst (λ (w : Summary). IsLeastFor (IsEither (cell_at was v) (cell_at others v)) w) (sym (ap (λ (xs : List Summary). cell_at xs v) em ∙ cell_same now v r hv))
      (subst (λ (w : Summary). IsLeastFor (IsEither w (cell_at others v)) r) (ex ∙ rest v (own v)) (subst (λ (w : Summary). IsLeastFor (IsEither x w) r) ey join)))
  | inr ne ↦ subst (λ (w : Summary). IsLeastFor (IsEither (cell_at was j) (cell_at others j)) w) (sym (ap (λ (xs : List Summary). cell_at xs j) em ∙ cell_other now v j r ne)) (done j (less_or j v h ne))
]
  where
    own : (v : ℕ) → v ≤ v
    own v = omega arith

pub cells_rest : (was now : List Summary) (v : ℕ) (r : Summary) (made : List Summary) → made ≡ set now v r → ((j : ℕ) → v ≤ j → cell_at now j ≡ cell_at was j) → (j : ℕ) → v + 1 ≤ j → cell_at made j ≡ cell_at was j
cells_rest was now v r made em rest j h = ap (λ (xs : List Summary). cell_at xs j) em ∙ cell_other now v j r (more_not j v h) ∙ rest j (less_of j v h)

-- one that does not lie in the other ends the search
pub not_all_lie : (ranges others : List Interval) (v : ℕ) (x y : Interval) (lies : Bool) → v < length ranges → x ≡ range_at ranges v → y ≡ range_at others v → (IsTrue lies ↔ ((y.low ≤ℤ x.low) × (x.high ≤ℤ y.high))) → lies ≡ false
    → IsTrue false ↔ ((j : ℕ) → j < length ranges → Lies (range_at others j) (range_at ranges j))
not_all_lie ranges others v x y lies hv ex ey h e = (
  λ t. never t,
  λ all.
      let l = subst (λ (w : Interval). Lies w x) (sym ey) (subst (λ (w : Interval). Lies (range_at others v) w) (sym ex) (all v hv)) in
      subst IsTrue e (h.1 (l.above, l.below)),
)

pub not_all_below : (cells others : List Summary) (v : ℕ) (x y : Summary) (lies : Bool) → v < length cells → x ≡ cell_at cells v → y ≡ cell_at others v → (IsTrue lies ↔ IsIncluded x y) → lies ≡ false
    → IsTrue false ↔ ((j : ℕ) → j < length cells → IsIncluded (cell_at cells j) (cell_at others j))
not_all_below cells others v x y lies hv ex ey h e = (
  λ t. never t,
  λ all.
      subst IsTrue e (h.1 (subst (λ (w : Summary). IsIncluded w y) (sym ex) (subst (λ (w : Summary). IsIncluded (cell_at cells v) w) (sym ey) (all v hv)))),
)
