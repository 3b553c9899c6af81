-- What is asked of an action between two nodes where it is taken as no return.
use Rattle.std.specs.Prelude.{ℕ, ◌≡◌, Option, Some, None}
use Rattle.wm_domain.specs.declared.shape.Shape.{Shape}
use Rattle.wm_domain.specs.States.{IsShape}
use Rattle.wm_flow.specs.declared.action.Action.{Action}
use Rattle.wm_flow.specs.declared.action.Action.TheVariants as action
use Rattle.wm_left.specs.declared.returns.Return.{Return}
use Rattle.wm_carry.specs.Following.{IsWay}
use Rattle.wm_uses.specs.Last.{call_of}
use Rattle.wm_drawn.specs.Fitting.{FormFits, PlainFits, CastFits, RangeFits, OperateFits, VariablesFit, CellsFit, ReadFits, WriteFits, KeepFits, TestFits, TurnFits, TieFits, InputsFit, EnterFits}

abbrev pub StepFits : Shape → Shape → Action → Type 0
StepFits s t (action.AssignForm target form) = FormFits s t target form
StepFits s t (action.Plain mark args target) = PlainFits s t args target
StepFits s t (action.Cast form target) = CastFits s t form target
StepFits s t (action.AssignRange target range) = RangeFits s t target range
StepFits s t (action.SetArray array summary) = CellsFit s t array
StepFits s t (action.Operate op args target overflow) = OperateFits s t args target overflow
StepFits s t (action.Read array target) = ReadFits s t array target
StepFits s t (action.Write array value length) = WriteFits s t array value
StepFits s t (action.Clear variables) = VariablesFit s t variables
StepFits s t (action.Keep form relation) = KeepFits s t form
StepFits s t (action.Test args form low high how) = TestFits s t form low high
StepFits s t (action.Count word) = IsWay s t
StepFits s t (action.Enter picks arrays arguments) = EnterFits s t picks arrays arguments
StepFits s t (action.Leave call from_call from_exit arrays result) = IsShape t
StepFits s t (action.Reset counters) = VariablesFit s t counters
StepFits s t (action.Turn growths) = TurnFits s t growths
StepFits s t (action.Tie counter loop_step variable step) = TieFits s t counter loop_step variable
StepFits s t (action.Inputs scalars arrays) = InputsFit s t scalars arrays

-- the action is the return of these lists
pub record IsReturn (it : Return) (act : Action) : Type 0 where
  pub call : ℕ
  pub is : act ≡ action.Leave call it.from_call.now it.from_exit.now it.arrays.now it.result

abbrev pub IsReturnBy : Option Return → Action → Type 0
IsReturnBy None act = call_of act ≡ None
IsReturnBy (Some it) act = IsReturn it act
