-- The points that each edge of a graph allows.
use Rattle.std.specs.Prelude.{ℕ, ℤ, ◌+ℤ◌, ◌-ℤ◌, ◌*ℤ◌, int_div, [], Option, Some, None, slice_get}
use Rattle.wm_program.specs.declared.tree.PlainMark.{PlainMark}
use Rattle.wm_program.specs.declared.tree.PlainMark.TheVariants.{Plus, Minus, Times, Divide}
use Rattle.wm_interval.specs.Holds.{Holds}
use Rattle.wm_domain.specs.declared.shape.Shape.{Shape}
use Rattle.wm_domain.specs.Points.{Point, range_at}
use Rattle.wm_domain.specs.States.{IsCellBetween}
use Rattle.wm_domain.specs.Changes.{Kept}
use Rattle.wm_flow.specs.declared.action.Action.{Action}
use Rattle.wm_flow.specs.declared.action.Action.TheVariants as action
use Rattle.wm_flow.specs.declared.graph.Edge.{Edge}
use Rattle.wm_flow.specs.declared.graph.Graph.{Graph}
use Rattle.wm_images.specs.Nodes.{node_shape}
use Rattle.wm_carry.specs.Following.{Moved}
use Rattle.wm_assign.specs.Giving.{Sets, IsGiven}
use Rattle.wm_plain.specs.Results.{InResults}
use Rattle.wm_cast.specs.Casting.{InCast}
use Rattle.wm_celled.specs.Cells.{ArraySetTo, WrittenTo}
use Rattle.wm_cleared.specs.Dropping as dropping
use Rattle.wm_tested.specs.Likes.{Between}
use Rattle.wm_step.specs.Operating.{OperateImage, form_at}
use Rattle.wm_step.specs.Images.{TurnImage, TieImage, InputsImage, EnterImage, LeaveImage}

-- the exact value; a quotient is truncated towards zero
abbrev pub operation_of : PlainMark → ℤ → ℤ → ℤ
operation_of Plus = ◌+ℤ◌
operation_of Minus = ◌-ℤ◌
operation_of Times = ◌*ℤ◌
operation_of Divide = int_div

-- from the points at the source and those at the call's node, which a return alone looks at
abbrev pub AllowedBy : Shape → Shape → (Point → Type 0) → (Point → Type 0) → Action → Point → Type 0
AllowedBy s t Has AtCall (action.AssignForm target form) = Sets s t Has target (IsGiven Has form)
AllowedBy s t Has AtCall (action.Plain mark args target) = Sets s t Has target (λ was z. InResults Has (operation_of mark) (form_at args 0) (form_at args 1) z)
AllowedBy s t Has AtCall (action.Cast form target) = Sets s t Has target (λ was z. InCast Has form z)
AllowedBy s t Has AtCall (action.AssignRange target range) = Sets s t Has target (λ was z. Holds range z)
AllowedBy s t Has AtCall (action.SetArray array summary) = ArraySetTo s t Has array summary
AllowedBy s t Has AtCall (action.Operate op args target overflow) = OperateImage s t Has op args target overflow
AllowedBy s t Has AtCall (action.Read array target) = Sets s t Has target (λ was z. IsCellBetween Has array z)
AllowedBy s t Has AtCall (action.Write array value length) = WrittenTo s t Has array (range_at t.arrays array) value length
AllowedBy s t Has AtCall (action.Clear variables) = Moved s t Has variables []
AllowedBy s t Has AtCall (action.Keep form relation) = Moved s t (Kept Has form relation) [] []
AllowedBy s t Has AtCall (action.Test args form low high how) = Moved s t (Between Has form low high) [] []
AllowedBy s t Has AtCall (action.Count word) = Moved s t Has [] []
AllowedBy s t Has AtCall (action.Enter picks arrays arguments) = EnterImage Has picks arrays arguments
AllowedBy s t Has AtCall (action.Leave call from_call from_exit arrays result) = LeaveImage AtCall Has from_call from_exit arrays result
AllowedBy s t Has AtCall (action.Reset counters) = dropping.Reset s t Has counters
AllowedBy s t Has AtCall (action.Turn growths) = TurnImage s t Has growths
AllowedBy s t Has AtCall (action.Tie counter loop_step variable step) = TieImage s t Has counter loop_step variable step
AllowedBy s t Has AtCall (action.Inputs scalars arrays) = InputsImage s t Has scalars arrays

abbrev pub AllowedAlong : Graph → Option Edge → (Point → Type 0) → (Point → Type 0) → Point → Type 0
AllowedAlong graph None Has AtCall = λ p. ⊥
AllowedAlong graph (Some edge) Has AtCall = AllowedBy (node_shape graph edge.source) (node_shape graph edge.target) Has AtCall edge.action

-- along the edge of a number
abbrev pub Allows : Graph → (number : ℕ) → (Point → Type 0) → (Point → Type 0) → Point → Type 0
Allows graph number Has AtCall = AllowedAlong graph (slice_get graph.edges number) Has AtCall
