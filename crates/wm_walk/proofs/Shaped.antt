-- The shapes of nodes.
use Rattle.std.proofs.Common.{ℕ, zero, suc, List, [], ◌∷◌, get_or, arith}
use Rattle.std.proofs.lemmas.List.Elements.{All-nil, All-head, All-tail}
use Rattle.std.specs.Prelude.{All}
use Rattle.wm_domain.specs.declared.shape.Shape.{Shape}
use Rattle.wm_domain.specs.Points.{IsNarrow}
use Rattle.wm_domain.specs.States.{IsShape}
use Rattle.wm_flow.specs.declared.graph.Graph.{Graph}
use Rattle.wm_images.specs.Nodes.{no_shape, node_shape}

is_no_shape : IsShape no_shape
is_no_shape = record { few = omega arith; group = All-nil IsNarrow; singles = All-nil IsNarrow; arrays = All-nil IsNarrow }

shape_in : (shapes : List Shape) (k : ℕ) → All IsShape shapes → IsShape (get_or shapes k no_shape)
shape_in [] k h = is_no_shape
shape_in (x ∷ xs) zero h = All-head IsShape x xs h
shape_in (x ∷ xs) (suc k) h = shape_in xs k (All-tail IsShape x xs h)

pub is_shape : (graph : Graph) (node : ℕ) → All IsShape graph.shapes → IsShape (node_shape graph node)
is_shape graph node h = shape_in graph.shapes (get_or graph.node_shape node 0) h
