-- The least state on the grid that holds two states, and what a state holds that holds an image.
use Rattle.std.proofs.Common.{◌≡◌, sym, subst, ◌∙◌, ap, ℕ, List, Bool, ℤ, Option, Some, Result, Ok, Err}
use Rattle.std.specs.Prelude.{IfOk, OnOk, slice_get}
use Rattle.wm_domain.specs.declared.shape.Shape.{Shape}
use Rattle.wm_domain.specs.Points.{Point}
use Rattle.wm_domain.specs.States.{IsLeast}
use Rattle.wm_domain.specs.Changes.{InEither}
use Rattle.wm_flow.specs.declared.graph.Head.{Head}
use Rattle.wm_flow.specs.declared.graph.Graph.{Graph}
use Rattle.wm_images.specs.Nodes.{node_shape}
use Rattle.wm_walk.specs.Graphs.{AreStates}
use Rattle.wm_rounding.specs.Rounding.{IsOnGrid}
use Rattle.wm_fix.specs.Replaced.{IsLeastOn, IsShapedAt}

module _ {S : Type 0} (Has : S → Point → Type 0) (shape_of : S → Shape) (numbers : List ℤ) (pairs : Bool) (shape : Shape) (A B : Point → Type 0) (joined : S) where
  pub least_on : {E : Type 0} (r : Result S E) → shape_of joined ≡ shape → IsLeast Has shape_of joined (InEither A B)
      → IfOk r (λ s. IsOnGrid numbers pairs shape (Has s))
      → IfOk r (λ s. (t : S) → shape_of t ≡ shape → IsOnGrid numbers pairs shape (Has t) → ((p : Point) → Has joined p → Has t p) → (p : Point) → Has s p → Has t p)
      → IfOk r (λ s. IsLeastOn numbers pairs Has shape_of shape (InEither A B) s)
  least_on (Err x) e l on le = tt
  least_on (Ok s) e l on le = record {
    on_grid = on;
    least = λ t h g k p m. le t h g (l.least t (h ∙ sym e) (record { kept = λ q i w. k q w })) p m;
  }

module _ {S : Type 0} (shape_of : S → Shape) (graph : Graph) (states : List S) where
  -- the state of a head at a node has the shape of an image to the node
  pub shaped_at : (number node : ℕ) (head : Head) (shape : Shape) → AreStates shape_of graph states → slice_get graph.heads number ≡ Some head → head.node ≡ node → shape ≡ node_shape graph node → IsShapedAt shape_of states number shape
  shaped_at number node head shape a is there e = record {
    each = λ state i. a.each number head state is i ∙ ap (node_shape graph) there ∙ sym e;
  }
