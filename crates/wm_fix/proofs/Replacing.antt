-- States of heads of which one is replaced, or that are put one behind another.
use Rattle.std.proofs.Common.{◌≡◌, ◌⊎◌, inl, inr, refl, sym, subst, ◌∙◌, ap, ℕ, zero, suc, ◌<◌, List, [], ◌∷◌, ◌++◌, length, get_or, Option, Some}
use Rattle.std.proofs.lemmas.Option.{slice_get-get_or}
use Rattle.std.specs.Prelude.{slice_get, slice_set}
use Rattle.wm_domain.specs.declared.shape.Shape.{Shape}
use Rattle.wm_flow.specs.declared.graph.Head.{Head}
use Rattle.wm_flow.specs.declared.graph.Graph.{Graph}
use Rattle.wm_images.specs.Nodes.{node_shape}
use Rattle.wm_walk.specs.Graphs.{AreStates}
use Rattle.wm_accept.proofs.Trying.{set_cases}
use Rattle.wm_fix.specs.Replaced.{IsSetAs}

same_head : (o : Option Head) (a b : Head) → o ≡ Some a → o ≡ Some b → a ≡ b
same_head o a b h k = cc

pub some_there : {X : Type 0} (x y : X) → Some x ≡ Some y → x ≡ y
some_there x y e = cc

pub got_cases : {X : Type 0} (xs : List X) (x y : X) (k : ℕ) → slice_get (xs ++ x ∷ []) k ≡ Some y → (slice_get xs k ≡ Some y) ⊎ ((k ≡ length xs) × (x ≡ y))
got_cases [] x y zero e = inr (refl, some_there x y e)
got_cases [] x y (suc k) e = inl e
got_cases (z ∷ xs) x y zero e = inl e
got_cases (z ∷ xs) x y (suc k) e = later (got_cases xs x y k e)
  where
    later : (slice_get xs k ≡ Some y) ⊎ ((k ≡ length xs) × (x ≡ y)) → (slice_get xs k ≡ Some y) ⊎ ((suc k ≡ suc (length xs)) × (x ≡ y))
    later (inl h) = inl h
    later (inr h) = inr (ap suc h.0, h.1)

module _ {S : Type 0} (shape_of : S → Shape) (graph : Graph) (states : List S) where
  pub set_states : (place : ℕ) (s : S) (head : Head) → slice_get graph.heads place ≡ Some head → shape_of s ≡ node_shape graph head.node → AreStates shape_of graph states → AreStates shape_of graph (slice_set states place s)
  set_states place s head is e a = record {
    each = λ k other state h i. by k other state h (set_cases states place k s state i);
  }
    where
      by : (k : ℕ) (other : Head) (state : S) → slice_get graph.heads k ≡ Some other → (slice_get states k ≡ Some state) ⊎ ((k ≡ place) × (s ≡ state)) → shape_of state ≡ node_shape graph other.node
      by k other state h (inl i) = a.each k other state h i
      by k other state h (inr i) =
          subst (λ (t : S). shape_of t ≡ node_shape graph other.node) i.1
          (e ∙ ap (λ (x : Head). node_shape graph x.node) (same_head (slice_get graph.heads place) head other is (subst (λ (n : ℕ). slice_get graph.heads n ≡ Some other) i.0 h)))

  pub set_as : (place : ℕ) (new : List S) (head : Head) → place < length states → slice_get graph.heads place ≡ Some head → IsSetAs shape_of states place new → AreStates shape_of graph states → AreStates shape_of graph new
  set_as place new head inside is e a =
      let was = get_or states place e.now in
      let there : slice_get states place ≡ Some was = slice_get-get_or states place e.now inside in
      subst (AreStates shape_of graph) (sym e.list)
      (set_states place e.now head is (e.shape was there ∙ a.each place head was is there) a)

  pub push_states : (s : S) (head : Head) → slice_get graph.heads (length states) ≡ Some head → shape_of s ≡ node_shape graph head.node → AreStates shape_of graph states → AreStates shape_of graph (states ++ s ∷ [])
  push_states s head is e a = record {
    each = λ k other state h i. by k other state h (got_cases states s state k i);
  }
    where
      by : (k : ℕ) (other : Head) (state : S) → slice_get graph.heads k ≡ Some other → (slice_get states k ≡ Some state) ⊎ ((k ≡ length states) × (s ≡ state)) → shape_of state ≡ node_shape graph other.node
      by k other state h (inl i) = a.each k other state h i
      by k other state h (inr i) =
          subst (λ (t : S). shape_of t ≡ node_shape graph other.node) i.1
          (e ∙ ap (λ (x : Head). node_shape graph x.node) (same_head (slice_get graph.heads (length states)) head other is (subst (λ (n : ℕ). slice_get graph.heads n ≡ Some other) i.0 h)))

pub no_states : {S : Type 0} (shape_of : S → Shape) (graph : Graph) → AreStates {S = S} shape_of graph []
no_states {S} shape_of graph = record { each = λ k head state h i. absurd (none k state i) }
  where
    none : (k : ℕ) (state : S) → slice_get {X = S} [] k ≡ Some state → ⊥
    none k state i = cc
