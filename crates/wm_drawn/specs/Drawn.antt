-- What is asked of the edges of a graph.
use Rattle.std.specs.Prelude.{ℕ, Option, Some, None, slice_get}
use Rattle.wm_domain.specs.declared.shape.Shape.{Shape}
use Rattle.wm_flow.specs.declared.action.Action.{Action}
use Rattle.wm_flow.specs.declared.action.Action.TheVariants as action
use Rattle.wm_flow.specs.declared.graph.Edge.{Edge}
use Rattle.wm_flow.specs.declared.graph.Graph.{Graph}
use Rattle.wm_carry.specs.Following.{IsWay}
use Rattle.wm_images.specs.Nodes.{node_shape}
use Rattle.wm_drawn.specs.Fitting.{FormFits, PlainFits, CastFits, RangeFits, OperateFits, VariablesFit, CellsFit, ReadFits, WriteFits, KeepFits, TestFits, TurnFits, TieFits, InputsFit, EnterFits, LeaveFits}

-- the action fits the shapes of its nodes and, of a return, that of the call's node
abbrev pub Fits : Graph → Shape → Shape → Action → Type 0
Fits graph s t (action.AssignForm target form) = FormFits s t target form
Fits graph s t (action.Plain mark args target) = PlainFits s t args target
Fits graph s t (action.Cast form target) = CastFits s t form target
Fits graph s t (action.AssignRange target range) = RangeFits s t target range
Fits graph s t (action.SetArray array summary) = CellsFit s t array
Fits graph s t (action.Operate op args target overflow) = OperateFits s t args target overflow
Fits graph s t (action.Read array target) = ReadFits s t array target
Fits graph s t (action.Write array value length) = WriteFits s t array value
Fits graph s t (action.Clear variables) = VariablesFit s t variables
Fits graph s t (action.Keep form relation) = KeepFits s t form
Fits graph s t (action.Test args form low high how) = TestFits s t form low high
Fits graph s t (action.Count word) = IsWay s t
Fits graph s t (action.Enter picks arrays arguments) = EnterFits s t picks arrays arguments
Fits graph s t (action.Leave call from_call from_exit arrays result) = LeaveFits s t (node_shape graph call) from_call from_exit arrays result
Fits graph s t (action.Reset counters) = VariablesFit s t counters
Fits graph s t (action.Turn growths) = TurnFits s t growths
Fits graph s t (action.Tie counter loop_step variable step) = TieFits s t counter loop_step variable
Fits graph s t (action.Inputs scalars arrays) = InputsFit s t scalars arrays

abbrev pub EdgeFits : Graph → Option Edge → Type 0
EdgeFits graph None = Unit {0}
EdgeFits graph (Some edge) = Fits graph (node_shape graph edge.source) (node_shape graph edge.target) edge.action

-- the edge of a number fits its nodes
abbrev pub IsDrawn : Graph → (number : ℕ) → Type 0
IsDrawn graph number = EdgeFits graph (slice_get graph.edges number)
