-- The shapes of the states of heads.
use Rattle.std.specs.Prelude.{◌≡◌, ℕ, List, map, Option, Some, slice_get, slice_index_or}
use Rattle.wm_domain.specs.declared.shape.Shape.{Shape}
use Rattle.wm_flow.specs.declared.graph.Graph.{Graph}
use Rattle.wm_flow.specs.declared.graph.Head.{Head}

-- the shape of a node
abbrev pub shape_at : Graph → ℕ → Option Shape
shape_at graph node = slice_get graph.shapes (slice_index_or graph.node_shape node 0)

-- the shapes of the nodes at which heads stand
abbrev pub head_shapes : Graph → List Head → List (Option Shape)
head_shapes graph heads = map (λ head. shape_at graph head.node) heads

abbrev pub state_shapes : {S : Type 0} → (S → Shape) → List S → List (Option Shape)
state_shapes {S} shape_of states = map (λ s. Some (shape_of s)) states

-- there is a state for each head, of the shape of the head's node
abbrev pub HaveShapes : {S : Type 0} → (S → Shape) → Graph → List S → Type 0
HaveShapes {S} shape_of graph states = state_shapes shape_of states ≡ head_shapes graph graph.heads
