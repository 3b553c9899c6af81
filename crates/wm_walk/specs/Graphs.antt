-- What a walk asks of a graph and of the states of its heads.
use Rattle.std.specs.Prelude.{ℕ, ◌≡◌, List, slice_get, Some}
use Rattle.wm_domain.specs.declared.shape.Shape.{Shape}
use Rattle.wm_flow.specs.declared.graph.Edge.{Edge}
use Rattle.wm_flow.specs.declared.graph.Head.{Head}
use Rattle.wm_flow.specs.declared.graph.Graph.{Graph}
use Rattle.wm_images.specs.Nodes.{node_shape}

-- what an implementation of images asks holds of each edge
pub record AreDrawn (Drawn : Graph → (number : ℕ) → Type 0) (graph : Graph) : Type 0 where
  pub each : (number : ℕ) (edge : Edge) → slice_get graph.edges number ≡ Some edge → Drawn graph number

-- each state has the shape of its head's node
pub record AreStates {S : Type 0} (shape_of : S → Shape) (graph : Graph) (states : List S) : Type 0 where
  pub each : (number : ℕ) (head : Head) (state : S) → slice_get graph.heads number ≡ Some head → slice_get states number ≡ Some state → shape_of state ≡ node_shape graph head.node
