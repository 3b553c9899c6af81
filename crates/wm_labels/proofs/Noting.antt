-- Marks of edges, one after another.
use Rattle.std.proofs.Common.{◌≡◌, ◌⊎◌, inl, inr, ℕ, zero, suc, List, [], ◌∷◌, Bool, false, Option, Some, refl, subst, sym, ap}
use Rattle.std.specs.Prelude.{slice_get, slice_set, MatchOption}
use Rattle.wm_flow.specs.declared.graph.Edge.{Edge}
use Rattle.wm_flow.specs.declared.graph.Graph.{Graph}
use Rattle.wm_domain.specs.declared.shape.Shape.{Shape}
use Rattle.wm_domain.specs.Points.{Point}
use Rattle.wm_domain.specs.States.{InShape, IsBare}
use Rattle.wm_images.specs.Nodes.{node_shape}
use Rattle.wm_images.specs.Labels.{AreOf, Receives}
use Rattle.wm_labels.specs.Live.{IsDead, AreNoted}

some_there : {X : Type 0} (x y : X) → Some x ≡ Some y → x ≡ y
some_there x y e = cc

-- what stands in a list after one place was set
set_cases : {X : Type 0} (xs : List X) (i k : ℕ) (x y : X) → slice_get (slice_set xs i x) k ≡ Some y → (slice_get xs k ≡ Some y) ⊎ ((k ≡ i) × (x ≡ y))
set_cases [] i k x y e = inl e
set_cases (z ∷ xs) zero zero x y e = inr (refl, some_there x y e)
set_cases (z ∷ xs) zero (suc k) x y e = inl e
set_cases (z ∷ xs) (suc i) zero x y e = inl e
set_cases (z ∷ xs) (suc i) (suc k) x y e = later (set_cases xs i k x y e)
  where
    later : (slice_get xs k ≡ Some y) ⊎ ((k ≡ i) × (x ≡ y)) → (slice_get xs k ≡ Some y) ⊎ ((suc k ≡ suc i) × (x ≡ y))
    later (inl h) = inl h
    later (inr h) = inr (ap suc h.0, h.1)

module _ (Allowed : Graph → (number : ℕ) → (Point → Type 0) → (Point → Type 0) → Point → Type 0) {S : Type 0} (Has : S → Point → Type 0) (shape_of : S → Shape) (graph : Graph) where
  -- an edge whose image has no point is dead
  dead_by : (pairs : List (ℕ × S)) (number : ℕ) (image : S) → MatchOption (slice_get graph.edges number) ⊥ (λ edge. shape_of image ≡ node_shape graph edge.target) → Receives Allowed Has shape_of graph pairs number image → IsBare (Has image)
      → (labels : List S) → AreOf labels pairs → IsDead Allowed Has shape_of graph labels number
  dead_by pairs number image shape r bare labels of = record {
    none = λ edge is p inside along.
        let same : shape_of image ≡ node_shape graph edge.target = subst (λ (o : Option Edge). MatchOption o ⊥ (λ edge. shape_of image ≡ node_shape graph edge.target)) is shape in
        bare p (((r.each labels of).holds edge is).kept p (subst (λ (s : Shape). InShape s p) (sym same) inside) along);
  }

  module _ (pairs : List (ℕ × S)) where
    pub noted_none : (marks : List Bool) → AreNoted Allowed Has shape_of graph pairs marks marks
    noted_none marks = record { each = λ k e. inl e }

    pub noted_more : (first before after : List Bool) → AreNoted Allowed Has shape_of graph pairs first before → AreNoted Allowed Has shape_of graph pairs before after → AreNoted Allowed Has shape_of graph pairs first after
    noted_more first before after a b = record { each = λ k e. by k (b.each k e) }
      where
        by : (k : ℕ) → (slice_get before k ≡ Some false) ⊎ ((labels : List S) → AreOf labels pairs → IsDead Allowed Has shape_of graph labels k) → (slice_get first k ≡ Some false) ⊎ ((labels : List S) → AreOf labels pairs → IsDead Allowed Has shape_of graph labels k)
        by k (inl h) = a.each k h
        by k (inr h) = inr h

    pub noted_one : (before after : List Bool) (number : ℕ) (image : S) (mark : Bool) → after ≡ slice_set before number mark → (mark ≡ false → IsBare (Has image))
        → MatchOption (slice_get graph.edges number) ⊥ (λ edge. shape_of image ≡ node_shape graph edge.target) → Receives Allowed Has shape_of graph pairs number image → AreNoted Allowed Has shape_of graph pairs before after
    noted_one before after number image mark e bare shape r = record { each = λ k off. by k (set_cases before number k mark false (subst (λ ms. slice_get ms k ≡ Some false) e off)) }
      where
        by : (k : ℕ) → (slice_get before k ≡ Some false) ⊎ ((k ≡ number) × (mark ≡ false)) → (slice_get before k ≡ Some false) ⊎ ((labels : List S) → AreOf labels pairs → IsDead Allowed Has shape_of graph labels k)
        by k (inl h) = inl h
        by k (inr h) = inr (λ labels of. subst (λ n. IsDead Allowed Has shape_of graph labels n) (sym h.0) (dead_by pairs number image shape r (bare h.1) labels of))
