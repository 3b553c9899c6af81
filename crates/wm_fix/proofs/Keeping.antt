-- Groups by node, of which one is replaced, or that are put one behind another.
use Rattle.std.proofs.Common.{◌≡◌, ◌⊎◌, inl, inr, subst, ◌∙◌, ap, sym, ℕ, List, [], ◌∷◌, ◌++◌, length, Option, Some, None}
use Rattle.std.specs.Prelude.{slice_get, slice_set}
use Rattle.wm_domain.specs.declared.shape.Shape.{Shape}
use Rattle.wm_flow.specs.declared.graph.Graph.{Graph}
use Rattle.wm_images.specs.Nodes.{node_shape}
use Rattle.wm_accept.proofs.Trying.{set_cases}
use Rattle.wm_fix.specs.Cores.{AreCores}
use Rattle.wm_fix.proofs.Replacing.{some_there, got_cases}

no_core : {S : Type 0} (s : S) → ◌≡◌ {A = Option S} None (Some s) → ⊥
no_core s e = cc

module _ {S : Type 0} (shape_of : S → Shape) (graph : Graph) where
  pub no_cores : AreCores {S = S} shape_of graph []
  no_cores = record { each = λ node core i. absurd (none node core i) }
    where
      none : (k : ℕ) (core : S) → slice_get {X = Option S} [] k ≡ Some (Some core) → ⊥
      none k core i = cc

  pub push_none : (cores : List (Option S)) → AreCores shape_of graph cores → AreCores shape_of graph (cores ++ None ∷ [])
  push_none cores a = record { each = λ node core i. by node core (got_cases cores None (Some core) node i) }
    where
      by : (k : ℕ) (core : S) → (slice_get cores k ≡ Some (Some core)) ⊎ ((k ≡ length cores) × (None ≡ Some core)) → shape_of core ≡ node_shape graph k
      by k core (inl i) = a.each k core i
      by k core (inr i) = absurd (no_core core (i.1))

  -- a group of the node's shape, or none, at its place
  pub set_core : (cores : List (Option S)) (place : ℕ) (new : Option S) → ((s : S) → new ≡ Some s → shape_of s ≡ node_shape graph place) → AreCores shape_of graph cores → AreCores shape_of graph (slice_set cores place new)
  set_core cores place new e a = record { each = λ k core i. by k core (set_cases cores place k new (Some core) i) }
    where
      by : (k : ℕ) (core : S) → (slice_get cores k ≡ Some (Some core)) ⊎ ((k ≡ place) × (new ≡ Some core)) → shape_of core ≡ node_shape graph k
      by k core (inl i) = a.each k core i
      by k core (inr i) = e core i.1 ∙ ap (node_shape graph) (sym i.0)
