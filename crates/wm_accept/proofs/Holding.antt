-- A state that holds an image holds what the image does.
use Rattle.std.proofs.Common.{◌≡◌, ℕ, List, Option, Some, Result, Ok, Err, subst}
use Rattle.std.specs.Prelude.{IfOk, MatchOption}
use Rattle.wm_domain.specs.declared.shape.Shape.{Shape}
use Rattle.wm_domain.specs.Points.{Point}
use Rattle.wm_flow.specs.declared.graph.Edge.{Edge}
use Rattle.wm_flow.specs.declared.graph.Graph.{Graph}
use Rattle.wm_images.specs.Nodes.{node_shape}
use Rattle.wm_images.specs.Labels.{Receives}
use Rattle.wm_labels.proofs.Reaching.{received_more}
use Rattle.wm_accept.specs.declared.entries.Entry.{Entry}
use Rattle.wm_accept.specs.declared.entries.Entry.TheVariants.{Unseen, Held, Passes}
use Rattle.wm_accept.specs.Entries.{IfHeld}

pub target_shape : (graph : Graph) (node : ℕ) (shape : Shape) (o : Option Edge) (edge : Edge) → o ≡ Some edge → edge.target ≡ node → MatchOption o ⊥ (λ edge. shape ≡ node_shape graph edge.target) → shape ≡ node_shape graph node
target_shape graph node shape o edge is t h =
    subst (λ n. shape ≡ node_shape graph n) t (subst (λ (o : Option Edge). MatchOption o ⊥ (λ edge. shape ≡ node_shape graph edge.target)) is h)

module _ (Allowed : Graph → (number : ℕ) → (Point → Type 0) → (Point → Type 0) → Point → Type 0) {S : Type 0} (Has : S → Point → Type 0) (shape_of : S → Shape) (graph : Graph) (pairs : List (ℕ × S)) (number : ℕ) (image state : S) where
  by_entry : (entry : Entry) → shape_of state ≡ shape_of image → Receives Allowed Has shape_of graph pairs number image → IfHeld entry ((p : Point) → Has image p → Has state p) → IfHeld entry (Receives Allowed Has shape_of graph pairs number state)
  by_entry Unseen e r h = tt
  by_entry Held e r h = received_more Allowed Has shape_of graph pairs number image state e h r
  by_entry (Passes passed) e r h = tt

  pub receives_by : {E : Type 0} (r : Result Entry E) → shape_of state ≡ shape_of image → Receives Allowed Has shape_of graph pairs number image → IfOk r (λ entry. IfHeld entry ((p : Point) → Has image p → Has state p)) → IfOk r (λ entry. IfHeld entry (Receives Allowed Has shape_of graph pairs number state))
  receives_by (Err x) e i h = tt
  receives_by (Ok entry) e i h = by_entry entry e i h
