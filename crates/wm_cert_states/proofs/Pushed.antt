-- One more state at the end of those of the heads before.
use Rattle.std.proofs.Common.{◌≡◌, ◌⊎◌, inl, inr, sym, subst, ◌∙◌, ap, get_or, ℕ, ◌+◌, ◌<◌, ◌≤◌, List, [], ◌∷◌, ◌++◌, length, drop, append_assoc, suc, Option, Some, arith, length-append}
use Rattle.std.specs.Prelude.{slice_get}
use Rattle.std.proofs.Math.Seq.{get_or-append_seam}
use Rattle.std.proofs.Math.Seq.{drop-cons}
use Rattle.std.proofs.lemmas.List.{get_or_append_left, map-append}
use Rattle.std.proofs.lemmas.Option.{slice_get_within, slice_get-get_or, get_or_from_slice_get}
use Rattle.wm_domain.specs.Points.{Point}
use Rattle.wm_domain.specs.declared.shape.Shape.{Shape}
use Rattle.wm_cert_text.specs.declared.told.Head.{Head}
use Rattle.wm_state_of.specs.Meeting.{IsStateOf}
use Rattle.wm_flow.specs.declared.graph.Graph.{Graph}
use Rattle.wm_flow.specs.declared.graph.Head as graphs
use Rattle.wm_cert_states.specs.Shapes.{shape_at, head_shapes, state_shapes}
use Rattle.wm_cert_states.specs.Told.{AreTold}

-- what stands in a list with one more item
abbrev Where : {X : Type 0} → List X → X → ℕ → X → Type 0
Where xs x k y = ((k < length xs) × (slice_get xs k ≡ Some y)) ⊎ ((k ≡ length xs) × (x ≡ y))

where_is : {X : Type 0} (xs : List X) (x y : X) (k : ℕ) → slice_get (xs ++ x ∷ []) k ≡ Some y → Where xs x k y
where_is xs x y k e = elim (side k (length xs)) [
  | inl l ↦ inl (l, slice_get-get_or xs k y l ∙ ap Some (sym (get_or_append_left xs (x ∷ []) y k l) ∙ get_or_from_slice_get (xs ++ x ∷ []) k y y e))
  | inr g ↦
      let same : k ≡ length xs = last k (length xs) g (subst (λ (n : ℕ). k < n) (length-append xs (x ∷ [])) (slice_get_within (xs ++ x ∷ []) k y e)) in
      inr (same, sym (get_or-append_seam xs x [] y) ∙ subst (λ (j : ℕ). get_or (xs ++ x ∷ []) j y ≡ y) same (get_or_from_slice_get (xs ++ x ∷ []) k y y e))
]
  where
    side : (v n : ℕ) → (v < n) ⊎ (n ≤ v)
    side v n = grind arith

    last : (k n : ℕ) → n ≤ k → k < n + 1 → k ≡ n
    last k n g h = omega arith

module _ {S : Type 0} (shape_of : S → Shape) (holds : S → Point → Type 0) where
  pub told_pushed : (n : ℕ) (told : List Head) (states : List S) (state : S) → length states ≡ n → ((it : Head) → slice_get told n ≡ Some it → IsStateOf (shape_of state) it.state (holds state)) → AreTold shape_of holds told states → AreTold shape_of holds told (states ++ state ∷ [])
  told_pushed n told states state long here h = record {
    each = λ k it s e f. elim (where_is states state s k f) [
      | inl l ↦ h.each k it s e l.1
      | inr m ↦ subst (λ (y : S). IsStateOf (shape_of y) it.state (holds y)) m.1 (here it (subst (λ (j : ℕ). slice_get told j ≡ Some it) (m.0 ∙ long) e))
    ];
  }

pub shapes_pushed : {S : Type 0} (shape_of : S → Shape) (graph : Graph) (heads : List graphs.Head) (n : ℕ) (d : graphs.Head) (states : List S) (state : S) (whole : List (Option Shape)) → n < length heads → shape_at graph (get_or heads n d).node ≡ Some (shape_of state)
    → state_shapes shape_of states ++ head_shapes graph (drop n heads) ≡ whole → state_shapes shape_of (states ++ state ∷ []) ++ head_shapes graph (drop (n + 1) heads) ≡ whole
shapes_pushed {S} shape_of graph heads n d states state whole below here so_far =
    let one : suc n ≡ n + 1 = omega arith in
    let rest : List (Option Shape) = head_shapes graph (drop (n + 1) heads) in
    let grown : state_shapes shape_of (states ++ state ∷ []) ≡ state_shapes shape_of states ++ Some (shape_of state) ∷ [] = map-append (λ (s : S). Some (shape_of s)) states (state ∷ []) in
    let next : head_shapes graph (drop n heads) ≡ Some (shape_of state) ∷ rest = ap (head_shapes graph) (drop-cons heads n d below ∙ ap (λ (m : ℕ). get_or heads n d ∷ drop m heads) one) ∙ ap (λ (x : Option Shape). x ∷ rest) here in
    ap (λ (xs : List (Option Shape)). xs ++ rest) grown
    ∙ append_assoc (state_shapes shape_of states) (Some (shape_of state) ∷ []) rest
    ∙ ap (λ (xs : List (Option Shape)). state_shapes shape_of states ++ xs) (sym next)
    ∙ so_far

pub count_pushed : {S : Type 0} (n : ℕ) (states : List S) (state : S) → length states ≡ n → length (states ++ state ∷ []) ≡ n + 1
count_pushed n states state e = length-append states (state ∷ []) ∙ ap (λ (m : ℕ). m + 1) e
