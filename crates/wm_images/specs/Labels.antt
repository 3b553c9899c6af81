-- The points that an edge allows from the labels of nodes, and what is known of states that are kept of these.
use Rattle.std.specs.Prelude.{ℕ, ◌≡◌, List, slice_get, All, Option, Some, None}
use Rattle.wm_flow.specs.declared.graph.Edge.{Edge}
use Rattle.wm_flow.specs.declared.graph.Graph.{Graph}
use Rattle.wm_domain.specs.declared.shape.Shape.{Shape}
use Rattle.wm_domain.specs.Points.{Point}
use Rattle.wm_domain.specs.States.{Keeps}
use Rattle.wm_uses.specs.Last.{call_of}
use Rattle.wm_images.specs.Nodes.{node_shape}

module _ {S : Type 0} (Has : S → Point → Type 0) where
  -- the points of a state, where there is one
  abbrev pub PointsOf : Option S → Point → Type 0
  PointsOf None p = ⊥
  PointsOf (Some s) p = Has s p

  -- the points of the label of a node
  abbrev pub PointsAt : List S → ℕ → Point → Type 0
  PointsAt labels node p = PointsOf (slice_get labels node) p

  -- the points of the label of a call's node
  abbrev pub PointsAtCall : List S → Option ℕ → Point → Type 0
  PointsAtCall labels None p = ⊥
  PointsAtCall labels (Some call) p = PointsAt labels call p

-- the pairs have labels of their nodes
abbrev pub AreOf : {S : Type 0} → List S → List (ℕ × S) → Type 0
AreOf {S} labels pairs = All (λ (e : ℕ × S). slice_get labels e.0 ≡ Some e.1) pairs

-- the pairs have states of the shapes of their nodes
abbrev pub AreShaped : {S : Type 0} → (S → Shape) → Graph → List (ℕ × S) → Type 0
AreShaped {S} shape_of graph pairs = All (λ (e : ℕ × S). shape_of e.1 ≡ node_shape graph e.0) pairs

-- what the edge of a number allows, from the points at its source and at its call's node
module _ (Allowed : Graph → (number : ℕ) → (Point → Type 0) → (Point → Type 0) → Point → Type 0) {S : Type 0} (Has : S → Point → Type 0) (shape_of : S → Shape) where
  -- the same from the labels of its source and of its call's node
  abbrev pub Along : Graph → List S → (number : ℕ) → Edge → Point → Type 0
  Along graph labels number edge p = Allowed graph number (PointsAt Has labels edge.source) (PointsAtCall Has labels (call_of edge.action)) p

  -- a state holds the points that an edge allows
  pub record HoldsAlong (graph : Graph) (labels : List S) (number : ℕ) (s : S) : Type 0 where
    pub holds : (edge : Edge) → slice_get graph.edges number ≡ Some edge → Keeps Has shape_of s (Along graph labels number edge)

  -- the state holds what the edge allows, whatever the labels are of which these are some
  pub record Receives (graph : Graph) (pairs : List (ℕ × S)) (number : ℕ) (s : S) : Type 0 where
    pub each : (labels : List S) → AreOf labels pairs → HoldsAlong graph labels number s
