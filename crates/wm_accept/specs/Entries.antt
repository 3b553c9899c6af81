-- What is known of the edges of heads.
use Rattle.std.specs.Prelude.{ℕ, ◌≡◌, ◌⊎◌, List, slice_get, Some}
use Rattle.wm_domain.specs.declared.shape.Shape.{Shape}
use Rattle.wm_domain.specs.Points.{Point}
use Rattle.wm_flow.specs.declared.graph.Head.{Head}
use Rattle.wm_flow.specs.declared.graph.Graph.{Graph}
use Rattle.wm_images.specs.Labels.{Receives}
use Rattle.wm_accept.specs.declared.entries.Entry.{Entry}
use Rattle.wm_accept.specs.declared.entries.Entry.TheVariants.{Unseen, Held, Passes}

-- where the state holds what the edge allows
abbrev pub IfHeld : Entry → Type 0 → Type 0
IfHeld Unseen P = Unit {0}
IfHeld Held P = P
IfHeld (Passes passed) P = Unit {0}

module _ (Allowed : Graph → (number : ℕ) → (Point → Type 0) → (Point → Type 0) → Point → Type 0) {S : Type 0} (Has : S → Point → Type 0) (shape_of : S → Shape) (graph : Graph) (states : List S) (pairs : List (ℕ × S)) where
  -- each entry edge that is held now was held before, or is by the labels that are kept
  pub record AreTried (before after : List Entry) : Type 0 where
    pub each : (k : ℕ) (head : Head) (state : S) → slice_get graph.heads k ≡ Some head → slice_get states k ≡ Some state → slice_get after k ≡ Some Held → (slice_get before k ≡ Some Held) ⊎ Receives Allowed Has shape_of graph pairs head.entry state

  -- the state of a head holds what its back edge allows from the labels that are kept
  pub record IsClosed (k : ℕ) : Type 0 where
    pub back : (head : Head) (state : S) → slice_get graph.heads k ≡ Some head → slice_get states k ≡ Some state → Receives Allowed Has shape_of graph pairs head.back state
