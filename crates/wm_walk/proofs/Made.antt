-- The label of a head's node.
use Rattle.std.proofs.Common.{◌≡◌, ℕ, List, Option, Some, None, Result, Ok, Err, refl, subst, sym, ◌∙◌}
use Rattle.std.specs.Prelude.{IfOk}
use Rattle.wm_program.specs.declared.program.Program.{Program}
use Rattle.wm_domain.specs.declared.shape.Shape.{Shape}
use Rattle.wm_domain.specs.Points.{Point}
use Rattle.wm_flow.specs.declared.graph.Graph.{Graph}
use Rattle.wm_images.specs.Nodes.{node_shape}
use Rattle.wm_images.specs.Labels.{PointsAt}
use Rattle.wm_incoming.specs.Standing.{head_at}
use Rattle.wm_labels.specs.Labels.{IsMade, IsMadeBy}

module _ (Allowed : Graph → (number : ℕ) → (Point → Type 0) → (Point → Type 0) → Point → Type 0) (Started : Program → Graph → Point → Type 0) {S : Type 0} (Has : S → Point → Type 0) (shape_of : S → Shape) (program : Program) (graph : Graph) (heads : List S) (pairs : List (ℕ × S)) (node number : ℕ) where
  pub made_of_head : {E : Type 0} (head : Option ℕ) → head ≡ head_at node graph.heads → head ≡ Some number → (r : Result S E) → IfOk r (λ s. shape_of s ≡ node_shape graph node) → IfOk r (λ s. (p : Point) → PointsAt Has heads number p → Has s p) → IfOk r (IsMade Allowed Started Has shape_of program graph heads pairs node)
  made_of_head head e is (Err x) h k = tt
  made_of_head head e is (Ok s) h k = record {
    shape = h;
    by = subst (λ (o : Option ℕ). IsMadeBy Allowed Started Has shape_of program graph heads pairs node o s) (sym is ∙ e) k;
  }
