-- The states of a proof have the shapes by which its certificate is written.
use Rattle.std.proofs.Common.{◌≡◌, ◌∙◌, ℕ, zero, suc, List, [], ◌∷◌, Some}
use Rattle.std.specs.Prelude.{slice_get, slice_index_or}
use Rattle.wm_cert_write.specs.Heads.{HaveShapes}
use Rattle.wm_domain.specs.declared.shape.Shape.{Shape}
use Rattle.wm_flow.specs.declared.graph.Graph.{Graph}
use Rattle.wm_images.specs.Nodes.{no_shape}
use Rattle.wm_walk.specs.Graphs.{AreStates}

-- what stands at a place is what is found there
found_at : {A : Type 0} (xs : List A) (k : ℕ) (d x : A) → slice_get xs k ≡ Some x → slice_index_or xs k d ≡ x
found_at {A} [] k d x e = absurd cc
found_at {A} (y ∷ xs) zero d x e = cc
found_at {A} (y ∷ xs) (suc k) d x e = found_at xs k d x e

module _ {S : Type 0} (shape_of : S → Shape) (graph : Graph) (states : List S) (are : AreStates shape_of graph states) where
  pub have_shapes : HaveShapes shape_of graph states
  have_shapes = record {
    each = λ k head state shape here at is. are.each k head state here at ∙ found_at graph.shapes (slice_index_or graph.node_shape head.node 0) no_shape shape is;
  }
