-- When the states of the heads are accepted.
use Rattle.std.specs.Prelude.{ℕ, ◌≡◌, List, length, slice_get, Some}
use Rattle.wm_program.specs.declared.program.Program.{Program}
use Rattle.wm_flow.specs.declared.graph.Head.{Head}
use Rattle.wm_flow.specs.declared.graph.Graph.{Graph}
use Rattle.wm_domain.specs.declared.shape.Shape.{Shape}
use Rattle.wm_domain.specs.Points.{Point}
use Rattle.wm_images.specs.Labels.{HoldsAlong}
use Rattle.wm_labels.specs.Labels.{AreLabels}

module _ (Allowed : Graph → (number : ℕ) → (Point → Type 0) → (Point → Type 0) → Point → Type 0) (Started : Program → Graph → Point → Type 0) {S : Type 0} (Has : S → Point → Type 0) (shape_of : S → Shape) where
  -- the state of a head holds what its two edges allow
  pub record IsHeld (graph : Graph) (labels : List S) (head : Head) (state : S) : Type 0 where
    pub entry : HoldsAlong Allowed Has shape_of graph labels head.entry state
    pub back : HoldsAlong Allowed Has shape_of graph labels head.back state

  -- the labels of all nodes, of which each head's state holds what its two edges allow
  pub record IsAccepted (program : Program) (graph : Graph) (heads : List S) : Type 0 where
    pub labels : List S
    pub all : length labels ≡ length graph.node_shape
    pub made : AreLabels Allowed Started Has shape_of program graph heads labels
    pub held : (k : ℕ) (head : Head) (state : S) → slice_get graph.heads k ≡ Some head → slice_get heads k ≡ Some state → IsHeld graph labels head state
