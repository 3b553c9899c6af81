-- States that have the shapes of their heads are states of the graph.
use Rattle.std.proofs.Common.{◌≡◌, ℕ, List, Option, Some, sym, ap, ◌∙◌}
use Rattle.std.specs.Prelude.{option_map, slice_get, slice_index_or}
use Rattle.std.proofs.lemmas.Option.{slice_get-map, get_or_from_slice_get}
use Rattle.wm_domain.specs.declared.shape.Shape.{Shape}
use Rattle.wm_flow.specs.declared.graph.Graph.{Graph}
use Rattle.wm_flow.specs.declared.graph.Head.{Head}
use Rattle.wm_images.specs.Nodes.{no_shape, node_shape}
use Rattle.wm_walk.specs.Graphs.{AreStates}
use Rattle.wm_cert_states.specs.Shapes.{HaveShapes, head_shapes, shape_at, state_shapes}
use Rattle.wm_cert_write.specs.Heads as writes

-- the shape at a node is that of its states
node_has : (graph : Graph) (node : ℕ) (shape : Shape) → shape_at graph node ≡ Some shape → shape ≡ node_shape graph node
node_has graph node shape e = sym (get_or_from_slice_get graph.shapes (slice_index_or graph.node_shape node 0) shape no_shape e)

module _ {S : Type 0} (shape_of : S → Shape) (graph : Graph) (states : List S) where
  head_has : HaveShapes shape_of graph states → (k : ℕ) (head : Head) (state : S) → slice_get graph.heads k ≡ Some head → slice_get states k ≡ Some state → shape_at graph head.node ≡ Some (shape_of state)
  head_has have k head state at is =
      let by_state : slice_get (state_shapes shape_of states) k ≡ Some (Some (shape_of state)) = slice_get-map (λ s. Some (shape_of s)) states k ∙ ap (option_map (λ (s : S). Some (shape_of s))) is in
      let by_head : slice_get (head_shapes graph graph.heads) k ≡ Some (shape_at graph head.node) = slice_get-map (λ head. shape_at graph head.node) graph.heads k ∙ ap (option_map (λ (h : Head). shape_at graph h.node)) at in
      let same : Some (Some (shape_of state)) ≡ Some (shape_at graph head.node) = sym by_state ∙ ap (λ (xs : List (Option Shape)). slice_get xs k) have ∙ by_head in
      cc

  pub are_states : HaveShapes shape_of graph states → AreStates shape_of graph states
  are_states have = record {
    each = λ k head state at is. node_has graph head.node (shape_of state) (head_has have k head state at is);
  }

-- the states of heads can be written
pub writable : {S : Type 0} (shape_of : S → Shape) (graph : Graph) (states : List S) → AreStates shape_of graph states → writes.HaveShapes shape_of graph states
writable {S} shape_of graph states are = record {
  each = λ k head state shape at is has. are.each k head state at is ∙ sym (node_has graph head.node shape has);
}
