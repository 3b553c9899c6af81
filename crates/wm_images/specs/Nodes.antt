-- The shapes of the states at the nodes of a graph.
use Rattle.std.specs.Prelude.{ℕ, [], slice_index_or}
use Rattle.wm_domain.specs.declared.shape.Shape.{Shape}
use Rattle.wm_flow.specs.declared.graph.Graph.{Graph}

abbrev pub no_shape : Shape
no_shape = record { group = []; singles = []; arrays = [] }

abbrev pub node_shape : Graph → ℕ → Shape
node_shape graph node = slice_index_or graph.shapes (slice_index_or graph.node_shape node 0) no_shape
