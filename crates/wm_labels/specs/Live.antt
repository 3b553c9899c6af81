-- Edges along which no run goes on.
use Rattle.std.specs.Prelude.{ℕ, ◌≡◌, ◌⊎◌, List, Bool, false, slice_get, Some}
use Rattle.wm_flow.specs.declared.graph.Edge.{Edge}
use Rattle.wm_flow.specs.declared.graph.Graph.{Graph}
use Rattle.wm_domain.specs.declared.shape.Shape.{Shape}
use Rattle.wm_domain.specs.Points.{Point}
use Rattle.wm_domain.specs.States.{InShape}
use Rattle.wm_images.specs.Nodes.{node_shape}
use Rattle.wm_images.specs.Labels.{AreOf, Along}

module _ (Allowed : Graph → (number : ℕ) → (Point → Type 0) → (Point → Type 0) → Point → Type 0) {S : Type 0} (Has : S → Point → Type 0) (shape_of : S → Shape) (graph : Graph) where
  -- from these labels the edge allows no point
  pub record IsDead (labels : List S) (number : ℕ) : Type 0 where
    pub none : (edge : Edge) → slice_get graph.edges number ≡ Some edge → (p : Point) → InShape (node_shape graph edge.target) p → Along Allowed Has shape_of graph labels number edge p → ⊥

  -- each edge that is not marked now was not before, or allows no point, whatever the labels are of which these are some
  pub record AreNoted (pairs : List (ℕ × S)) (before after : List Bool) : Type 0 where
    pub each : (k : ℕ) → slice_get after k ≡ Some false → (slice_get before k ≡ Some false) ⊎ ((labels : List S) → AreOf labels pairs → IsDead labels k)
