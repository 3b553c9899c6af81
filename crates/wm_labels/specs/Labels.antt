-- The labels of the nodes of a graph, from a state for each head.
use Rattle.std.specs.Prelude.{ℕ, ◌≡◌, List, slice_get, All, IfSome, Option, Some, None}
use Rattle.wm_program.specs.declared.program.Program.{Program}
use Rattle.wm_flow.specs.declared.graph.Edge.{Edge}
use Rattle.wm_flow.specs.declared.graph.Graph.{Graph}
use Rattle.wm_domain.specs.declared.shape.Shape.{Shape}
use Rattle.wm_domain.specs.Points.{Point}
use Rattle.wm_domain.specs.States.{Keeps}
use Rattle.wm_incoming.specs.Into.{numbers_into}
use Rattle.wm_incoming.specs.Standing.{head_at}
use Rattle.wm_images.specs.Nodes.{node_shape}
use Rattle.wm_images.specs.Labels.{PointsAt, Along, Receives}

-- what the edge of a number allows, from the points at its source and at its call's node; and the points with which a run starts
module _ (Allowed : Graph → (number : ℕ) → (Point → Type 0) → (Point → Type 0) → Point → Type 0) (Started : Program → Graph → Point → Type 0) {S : Type 0} (Has : S → Point → Type 0) (shape_of : S → Shape) where
  -- the label of a node at which no head stands: at the first node the points with which a run starts, and what its edges allow
  pub record IsReached (program : Program) (graph : Graph) (labels : List S) (node : ℕ) (s : S) : Type 0 where
    pub start : node ≡ 0 → Keeps Has shape_of s (Started program graph)
    pub edges : (number : ℕ) (edge : Edge) → slice_get graph.edges number ≡ Some edge → edge.target ≡ node → Keeps Has shape_of s (Along Allowed Has shape_of graph labels number edge)

  -- a node at which a head stands has the points of the head's state
  abbrev pub IsLabelBy : Program → Graph → (heads labels : List S) → (node : ℕ) → Option ℕ → S → Type 0
  IsLabelBy program graph heads labels node None s = IsReached program graph labels node s
  IsLabelBy program graph heads labels node (Some head) s = (p : Point) → PointsAt Has heads head p → Has s p

  pub record IsLabel (program : Program) (graph : Graph) (heads labels : List S) (node : ℕ) (s : S) : Type 0 where
    pub shape : shape_of s ≡ node_shape graph node
    pub holds : IsLabelBy program graph heads labels node (head_at node graph.heads) s

  -- each node of the first so many has its label
  pub record AreLabels (program : Program) (graph : Graph) (heads labels : List S) : Type 0 where
    pub each : (node : ℕ) (s : S) → slice_get labels node ≡ Some s → IsLabel program graph heads labels node s

  -- ---- labels as they are made, from the labels that are kept then

  abbrev pub IsMadeBy : Program → Graph → (heads : List S) → (pairs : List (ℕ × S)) → (node : ℕ) → Option ℕ → S → Type 0
  IsMadeBy program graph heads pairs node None s =
      (node ≡ 0 → Keeps Has shape_of s (Started program graph))
      × All (λ number. Receives Allowed Has shape_of graph pairs number s) (numbers_into node graph.edges)
  IsMadeBy program graph heads pairs node (Some head) s = (p : Point) → PointsAt Has heads head p → Has s p

  pub record IsMade (program : Program) (graph : Graph) (heads : List S) (pairs : List (ℕ × S)) (node : ℕ) (s : S) : Type 0 where
    pub shape : shape_of s ≡ node_shape graph node
    pub by : IsMadeBy program graph heads pairs node (head_at node graph.heads) s

-- the edge is drawn and leads to the node
pub record Leads (Drawn : Graph → (number : ℕ) → Type 0) (graph : Graph) (node number : ℕ) : Type 0 where
  pub drawn : Drawn graph number
  pub target : IfSome (slice_get graph.edges number) (λ edge. edge.target ≡ node)
