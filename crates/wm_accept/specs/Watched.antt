-- Labels that are shown while they are made.
use Rattle.std.specs.Prelude.{ℕ, List}
use Rattle.wm_program.specs.declared.program.Program.{Program}
use Rattle.wm_domain.specs.declared.shape.Shape.{Shape}
use Rattle.wm_domain.specs.Points.{Point}
use Rattle.wm_flow.specs.declared.graph.Graph.{Graph}
use Rattle.wm_labels.specs.Accepted.{IsAccepted}
use Rattle.wm_accept.specs.declared.entries.Entry.{Entry}
use Rattle.wm_accept.specs.Standing.{Standing}

module _ (Allowed : Graph → (number : ℕ) → (Point → Type 0) → (Point → Type 0) → Point → Type 0) (Started : Program → Graph → Point → Type 0) {S : Type 0} (Has : S → Point → Type 0) (shape_of : S → Shape) where
  -- what stands after the labels of the first nodes were made, and these were shown
  pub record Watched (Saw : List S → Type 0) (program : Program) (graph : Graph) (states : List S) (pairs : List (ℕ × S)) (entries : List Entry) (node : ℕ) : Type 0 where
    pub standing : Standing Allowed Started Has shape_of program graph states pairs entries node
    pub saw : Saw standing.labels

  -- the states of the heads are accepted by labels that were shown
  pub record IsWatched (Saw : List S → Type 0) (program : Program) (graph : Graph) (heads : List S) : Type 0 where
    pub accepted : IsAccepted Allowed Started Has shape_of program graph heads
    pub saw : Saw accepted.labels
