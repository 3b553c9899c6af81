-- What a watched walk answers.
use Rattle.std.specs.Prelude.{ℕ, ◌≡◌, List, Bool, false, slice_get, Some}
use Rattle.wm_program.specs.declared.program.Program.{Program}
use Rattle.wm_domain.specs.declared.shape.Shape.{Shape}
use Rattle.wm_domain.specs.Points.{Point}
use Rattle.wm_flow.specs.declared.graph.Graph.{Graph}
use Rattle.wm_labels.specs.Accepted.{IsAccepted}
use Rattle.wm_labels.specs.Live.{IsDead}
use Rattle.wm_verdict.specs.Sites.{AreVerdicts}
use Rattle.wm_check.specs.declared.watching.Outcome.{Outcome}
use Rattle.wm_check.specs.declared.watching.Outcome.TheVariants.{Accepted, Gap}
use Rattle.wm_check.specs.declared.watching.Told.{Told}

abbrev pub IfAccepted : Outcome → Type 0 → Type 0
IfAccepted (Accepted told) P = P
IfAccepted (Gap gap) P = Unit {0}

abbrev pub IfTold : Outcome → (Told → Type 0) → Type 0
IfTold (Accepted told) P = P told
IfTold (Gap gap) P = Unit {0}

-- each edge that is not marked allows no point from the labels
pub record AreDead (Allowed : Graph → (number : ℕ) → (Point → Type 0) → (Point → Type 0) → Point → Type 0) {S : Type 0} (Has : S → Point → Type 0) (shape_of : S → Shape) (graph : Graph) (labels : List S) (live : List Bool) : Type 0 where
  pub each : (k : ℕ) → slice_get live k ≡ Some false → IsDead Allowed Has shape_of graph labels k

module _ (Allowed : Graph → (number : ℕ) → (Point → Type 0) → (Point → Type 0) → Point → Type 0) (Started : Program → Graph → Point → Type 0) {S : Type 0} (Has : S → Point → Type 0) (shape_of : S → Shape) where
  -- the verdicts are those of labels by which the states are accepted, and from which each edge that is not marked allows no point
  pub record IsTold (program : Program) (graph : Graph) (heads : List S) (told : Told) : Type 0 where
    pub accepted : IsAccepted Allowed Started Has shape_of program graph heads
    pub verdicts_are : AreVerdicts Has program graph accepted.labels told.verdicts
    pub dead : AreDead Allowed Has shape_of graph accepted.labels told.live.items
