-- The heads of the text of a certificate.
use Rattle.std.specs.Prelude.{◌≡◌, ℕ, ◌<◌, Bool, List, [], ◌∷◌, length, if◌then◌else◌, ◌==◌, Option, Some, None, slice_get, slice_index_or}
use Rattle.wm_domain.specs.Points.{Point}
use Rattle.wm_domain.specs.States.{IsBare}
use Rattle.wm_domain.specs.declared.shape.Shape.{Shape}
use Rattle.wm_flow.specs.declared.graph.Graph.{Graph}
use Rattle.wm_flow.specs.declared.graph.Head.{Head}
use Rattle.wm_flow.specs.declared.graph.Sum.{Sum}
use Rattle.wm_cert_text.specs.Whole.{certificate_text}
use Rattle.wm_cert_text.specs.declared.told.Head as texts
use Rattle.wm_cert_text.specs.declared.told.HeadName.{HeadName}
use Rattle.wm_cert_text.specs.declared.told.HeadName.TheVariants as name
use Rattle.wm_cert_text.specs.declared.told.State.{State}
use Rattle.wm_cert_text.specs.declared.told.SumStep.{SumStep}
use Rattle.wm_told.specs.Tells.{IsToldOf}
use Rattle.wm_cert_write.specs.Printed.{printed}

-- the name of a head: the frame, or its loop and its instance
abbrev pub name_with : (loop_id : ℕ) → (instance : Option ℕ) → HeadName
name_with loop_id None = name.Frame
name_with loop_id (Some instance) = name.Loop loop_id instance

abbrev pub name_of : (loop_id instance : Option ℕ) → HeadName
name_of None instance = name.Frame
name_of (Some loop_id) instance = name_with loop_id instance

-- the sum counters of a head
abbrev pub sums_at : (head : ℕ) → List Sum → List SumStep
sums_at head [] = []
sums_at head (sum ∷ rest) =
    if sum.head == head then record { variable = sum.variable; step = sum.step } ∷ sums_at head rest
    else sums_at head rest

-- the printed state is all that the state tells, with its tighter pairs
pub record IsPrinted (kept : Bool) (shape : Shape) (Has : Point → Type 0) (state : State) : Type 0 where
  pub full : State
  pub told : IsToldOf kept shape Has full
  pub is : state ≡ printed full

-- none is printed where the state has no point
abbrev pub IsStateText : (kept : Bool) → Shape → (Point → Type 0) → Option State → Type 0
IsStateText kept shape Has None = IsBare Has
IsStateText kept shape Has (Some state) = IsPrinted kept shape Has state

pub record IsHeadText (kept : Bool) (graph : Graph) (number : ℕ) (head : Head) (shape : Shape) (Has : Point → Type 0) (told : texts.Head) : Type 0 where
  pub name : told.name ≡ name_of head.loop_id head.instance
  pub sums : told.sums ≡ sums_at number graph.sums
  pub state : IsStateText kept shape Has told.state

-- ---- the whole text

-- the shape of a node
abbrev pub shape_at : Graph → ℕ → Option Shape
shape_at graph node = slice_get graph.shapes (slice_index_or graph.node_shape node 0)

-- each state has the shape of its head's node
pub record HaveShapes {S : Type 0} (shape_of : S → Shape) (graph : Graph) (states : List S) : Type 0 where
  pub each : (k : ℕ) (head : Head) (state : S) (shape : Shape) → slice_get graph.heads k ≡ Some head → slice_get states k ≡ Some state → shape_at graph head.node ≡ Some shape → shape_of state ≡ shape

abbrev pub no_head : texts.Head
no_head = record { name = name.Frame; sums = []; state = None }

-- the head of the text that belongs to a number
abbrev pub IsNumbered : {S : Type 0} → (S → Shape) → (S → Point → Type 0) → Bool → Graph → ℕ → List S → texts.Head → Type 0
IsNumbered {S} shape_of holds kept graph k states told =
    (head : Head) (state : S) → slice_get graph.heads k ≡ Some head → slice_get states k ≡ Some state → IsHeadText kept graph k head (shape_of state) (holds state) told

-- one head of a text for each of the first heads of the graph and its state
pub record AreHeads {S : Type 0} (shape_of : S → Shape) (holds : S → Point → Type 0) (kept : Bool) (graph : Graph) (states : List S) (count : ℕ) (told : List texts.Head) : Type 0 where
  pub long : length told ≡ count
  pub each : (k : ℕ) → k < count → IsNumbered shape_of holds kept graph k states (slice_index_or told k no_head)

-- the bytes are the text of these heads
pub record IsTextOf {S : Type 0} (shape_of : S → Shape) (holds : S → Point → Type 0) (kept : Bool) (graph : Graph) (states : List S) (bytes : List ℕ) : Type 0 where
  pub told : List texts.Head
  pub are : AreHeads shape_of holds kept graph states (length graph.heads) told
  pub text : bytes ≡ certificate_text told
