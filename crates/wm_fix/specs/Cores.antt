-- What holds of the groups, by node.
use Rattle.std.specs.Prelude.{ℕ, ◌≡◌, List, slice_get, Option, Some}
use Rattle.wm_domain.specs.declared.shape.Shape.{Shape}
use Rattle.wm_flow.specs.declared.graph.Graph.{Graph}
use Rattle.wm_images.specs.Nodes.{node_shape}

-- each state that there is has the shape of its node
pub record AreCores {S : Type 0} (shape_of : S → Shape) (graph : Graph) (cores : List (Option S)) : Type 0 where
  pub each : (node : ℕ) (core : S) → slice_get cores node ≡ Some (Some core) → shape_of core ≡ node_shape graph node
