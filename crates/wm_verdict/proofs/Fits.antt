-- The shape of a state at a node.
use Rattle.std.proofs.Common.{◌≡◌, ℕ, ap, ◌∙◌, sym, Some}
use Rattle.std.specs.Prelude.{slice_get, slice_index_or}
use Rattle.wm_domain.specs.declared.shape.Shape.{Shape}
use Rattle.wm_flow.specs.declared.graph.Graph.{Graph}
use Rattle.wm_verdict.specs.Places.{FitsNode}

pub node_shape : (graph : Graph) (node number : ℕ) (shape other : Shape) → FitsNode graph node shape → number ≡ slice_index_or graph.node_shape node 0 → slice_get graph.shapes number ≡ Some other → shape ≡ other
node_shape graph node number shape other h e f = h.same other (ap (slice_get graph.shapes) (sym e) ∙ f)
