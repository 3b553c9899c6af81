-- The entries when one more edge was tried.
use Rattle.std.proofs.Common.{◌≡◌, ◌⊎◌, inl, inr, ℕ, zero, suc, List, [], ◌∷◌, Option, Some, refl, subst, ap}
use Rattle.std.specs.Prelude.{slice_get, slice_set}
use Rattle.wm_domain.specs.declared.shape.Shape.{Shape}
use Rattle.wm_domain.specs.Points.{Point}
use Rattle.wm_flow.specs.declared.graph.Head.{Head}
use Rattle.wm_flow.specs.declared.graph.Graph.{Graph}
use Rattle.wm_images.specs.Labels.{Receives}
use Rattle.wm_accept.specs.declared.entries.Entry.{Entry}
use Rattle.wm_accept.specs.declared.entries.Entry.TheVariants.{Held}
use Rattle.wm_accept.specs.Entries.{IfHeld, AreTried}

same_some : {X : Type 0} (o : Option X) (x y : X) → o ≡ Some x → o ≡ Some y → x ≡ y
same_some o x y h k = cc

some_there : {X : Type 0} (x y : X) → Some x ≡ Some y → x ≡ y
some_there x y e = cc

-- what stands in a list after one place was set
pub set_cases : {X : Type 0} (xs : List X) (i k : ℕ) (x y : X) → slice_get (slice_set xs i x) k ≡ Some y → (slice_get xs k ≡ Some y) ⊎ ((k ≡ i) × (x ≡ y))
set_cases [] i k x y e = inl e
set_cases (z ∷ xs) zero zero x y e = inr (refl, some_there x y e)
set_cases (z ∷ xs) zero (suc k) x y e = inl e
set_cases (z ∷ xs) (suc i) zero x y e = inl e
set_cases (z ∷ xs) (suc i) (suc k) x y e = later (set_cases xs i k x y e)
  where
    later : (slice_get xs k ≡ Some y) ⊎ ((k ≡ i) × (x ≡ y)) → (slice_get xs k ≡ Some y) ⊎ ((suc k ≡ suc i) × (x ≡ y))
    later (inl h) = inl h
    later (inr h) = inr (ap suc h.0, h.1)

module _ (Allowed : Graph → (number : ℕ) → (Point → Type 0) → (Point → Type 0) → Point → Type 0) {S : Type 0} (Has : S → Point → Type 0) (shape_of : S → Shape) (graph : Graph) (states : List S) (pairs : List (ℕ × S)) where
  pub tried_none : (before : List Entry) → AreTried Allowed Has shape_of graph states pairs before before
  tried_none before = record { each = λ k head state h s after. inl after }

  pub tried_one : (before : List Entry) (i : ℕ) (entry : Entry) (head : Head) (state : S) → slice_get graph.heads i ≡ Some head → slice_get states i ≡ Some state → IfHeld entry (Receives Allowed Has shape_of graph pairs head.entry state) → AreTried Allowed Has shape_of graph states pairs before (slice_set before i entry)
  tried_one before i entry head state h s r = record { each = λ k other its oh os after. by k other its oh os (set_cases before i k entry Held after) }
    where
      by : (k : ℕ) (other : Head) (its : S) → slice_get graph.heads k ≡ Some other → slice_get states k ≡ Some its → (slice_get before k ≡ Some Held) ⊎ ((k ≡ i) × (entry ≡ Held)) → (slice_get before k ≡ Some Held) ⊎ Receives Allowed Has shape_of graph pairs other.entry its
      by k other its oh os (inl b) = inl b
      by k other its oh os (inr e) =
          let same_head : head ≡ other = same_some (slice_get graph.heads i) head other h (subst (λ n. slice_get graph.heads n ≡ Some other) e.0 oh) in
          let same_state : state ≡ its = same_some (slice_get states i) state its s (subst (λ n. slice_get states n ≡ Some its) e.0 os) in
          inr (subst (λ (x : Head). Receives Allowed Has shape_of graph pairs x.entry its) same_head
          (subst (λ (x : S). Receives Allowed Has shape_of graph pairs head.entry x) same_state
          (subst (λ (x : Entry). IfHeld x (Receives Allowed Has shape_of graph pairs head.entry state)) e.1 r)))
