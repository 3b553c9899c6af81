-- The shapes of the states at nodes.
use Rattle.std.specs.Prelude.{ℕ, ◌≡◌, Option, Some, None, slice_get, slice_index_or}
use Rattle.wm_domain.specs.declared.shape.Shape.{Shape}
use Rattle.wm_flow.specs.declared.graph.Graph.{Graph}

-- the shape of a node
abbrev pub shape_at : Graph → ℕ → Option Shape
shape_at graph node = slice_get graph.shapes (slice_index_or graph.node_shape node 0)

-- this is the node's shape, where the node has one
pub record FitsNode (graph : Graph) (node : ℕ) (shape : Shape) : Type 0 where
  pub same : (other : Shape) → shape_at graph node ≡ Some other → shape ≡ other

-- the instance of a node; 0 at a node of none
abbrev pub instance_in : Option (Option ℕ) → ℕ
instance_in None = 0
instance_in (Some None) = 0
instance_in (Some (Some instance)) = instance

abbrev pub instance_at : Graph → ℕ → ℕ
instance_at graph node = instance_in (slice_get graph.node_instance node)
