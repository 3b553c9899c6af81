-- The states that a text tells of the heads of a graph.
use Rattle.std.specs.Prelude.{◌≡◌, ℕ, Bool, List, slice_get, Some, Ok}
use Rattle.wm_domain.specs.Points.{Point}
use Rattle.wm_domain.specs.declared.shape.Shape.{Shape}
use Rattle.wm_cert_text.specs.declared.told.Head.{Head}
use Rattle.wm_state_of.specs.Meeting.{IsStateOf}
use Rattle.wm_cert_states.specs.Answers.{heads_in}

module _ {S : Type 0} (shape_of : S → Shape) (holds : S → Point → Type 0) where
  -- each state has exactly the points that the lines of its head allow
  pub record AreTold (told : List Head) (states : List S) : Type 0 where
    pub each : (k : ℕ) (head : Head) (state : S) → slice_get told k ≡ Some head → slice_get states k ≡ Some state → IsStateOf (shape_of state) head.state (holds state)

  -- the states are those that the text tells
  abbrev pub AreOfText : Bool → List ℕ → List S → Type 0
  AreOfText pairs bytes states = (told : List Head) → heads_in pairs bytes ≡ Ok told → AreTold told states
