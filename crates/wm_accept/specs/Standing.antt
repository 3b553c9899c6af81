-- What stands after the labels of the first so many nodes were made.
use Rattle.std.specs.Prelude.{ℕ, ◌≡◌, List, ◌++◌, length, slice_get, Some}
use Rattle.wm_program.specs.declared.program.Program.{Program}
use Rattle.wm_domain.specs.declared.shape.Shape.{Shape}
use Rattle.wm_domain.specs.Points.{Point}
use Rattle.wm_flow.specs.declared.graph.Head.{Head}
use Rattle.wm_flow.specs.declared.graph.Graph.{Graph}
use Rattle.wm_images.specs.Labels.{AreOf, AreShaped, HoldsAlong}
use Rattle.wm_labels.specs.Labels.{IsLabel}
use Rattle.wm_accept.specs.declared.entries.Entry.{Entry}
use Rattle.wm_accept.specs.declared.entries.Entry.TheVariants.{Held}

module _ (Allowed : Graph → (number : ℕ) → (Point → Type 0) → (Point → Type 0) → Point → Type 0) (Started : Program → Graph → Point → Type 0) {S : Type 0} (Has : S → Point → Type 0) (shape_of : S → Shape) where
  -- there are labels of these nodes, of which some are kept, whatever labels come behind them; and the entry edges that are held
  -- are so by these labels
  pub record Standing (program : Program) (graph : Graph) (states : List S) (pairs : List (ℕ × S)) (entries : List Entry) (node : ℕ) : Type 0 where
    pub labels : List S
    pub count : length labels ≡ node
    pub are_of : AreOf labels pairs
    pub shaped : AreShaped shape_of graph pairs
    pub made : (k : ℕ) (s : S) → slice_get labels k ≡ Some s → (more : List S) → IsLabel Allowed Started Has shape_of program graph states (labels ++ more) k s
    pub held : (k : ℕ) (head : Head) (state : S) → slice_get graph.heads k ≡ Some head → slice_get states k ≡ Some state → slice_get entries k ≡ Some Held → (more : List S) → HoldsAlong Allowed Has shape_of graph (labels ++ more) head.entry state
