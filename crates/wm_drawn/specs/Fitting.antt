-- What is asked of an action between two nodes, by the shapes of these: what it names stands there, numbers are small, and
-- where a state is carried from the one to the other what is paired has one full range.
use Rattle.std.specs.Prelude.{ℕ, ◌≡◌, ◌≢◌, ◌<◌, ◌≤◌, ◌^◌, ◌+◌, ℤ, ◌-ℤ◌, List, length, All, Option, Some, unsigned_abs}
use Rattle.wm_interval.specs.declared.Interval.{Interval}
use Rattle.wm_domain.specs.declared.form.Form.{Form}
use Rattle.wm_domain.specs.declared.shape.Shape.{Shape}
use Rattle.wm_domain.specs.Forms.{IsForm}
use Rattle.wm_domain.specs.States.{count_of, array_count, IsShape, IsSized}
use Rattle.wm_domain.specs.Changes.{ArePicks}
use Rattle.wm_flow.specs.declared.action.Argument.{Argument}
use Rattle.wm_flow.specs.declared.action.Given.{Given}
use Rattle.wm_flow.specs.declared.action.Growth.{Growth}
use Rattle.wm_flow.specs.declared.action.Returned.{Returned}
use Rattle.wm_carry.specs.Following.{IsWay, origin}
use Rattle.wm_assign.specs.Giving.{AreSeen}
use Rattle.wm_turned_at.specs.Counters.{AreCounters}
use Rattle.wm_step.specs.Operating.{form_at}
use Rattle.wm_middle.specs.Parting.{IsArgument}
use Rattle.wm_left.specs.Taking.{IsResult}

module _ (source target : Shape) where
  -- ---- numbers

  pub record FormFits (v : ℕ) (f : Form) : Type 0 where
    pub way : IsWay source target
    pub inside : v < count_of target
    pub form : IsForm (count_of source) f
    pub seen : AreSeen source target v f.terms

  pub record PlainFits (args : List Form) (v : ℕ) : Type 0 where
    pub way : IsWay source target
    pub inside : v < count_of target
    pub first : IsForm (count_of source) (form_at args 0)
    pub second : IsForm (count_of source) (form_at args 1)

  pub record CastFits (f : Form) (v : ℕ) : Type 0 where
    pub way : IsWay source target
    pub inside : v < count_of target
    pub form : IsForm (count_of source) f

  pub record RangeFits (v : ℕ) (r : Interval) : Type 0 where
    pub way : IsWay source target
    pub inside : v < count_of target
    pub sized : IsSized r

  -- the flag stands at one place in both nodes, and gets no other number
  pub record OperateFits (args : List Form) (v overflow : ℕ) : Type 0 where
    pub way : IsWay source target
    pub inside : v < count_of target
    pub forms : All (IsForm (count_of source)) args
    pub seen : AreSeen source target v (form_at args 0).terms
    pub flag : origin source target overflow ≡ Some overflow
    pub flag_inside : overflow < count_of target
    pub apart : v ≢ overflow

  pub record VariablesFit (variables : List ℕ) : Type 0 where
    pub way : IsWay source target
    pub inside : All (λ v. v < length target.group + length target.singles) variables

  -- ---- arrays

  pub record CellsFit (a : ℕ) : Type 0 where
    pub way : IsWay source target
    pub inside : a < array_count target

  pub record ReadFits (a v : ℕ) : Type 0 where
    pub way : IsWay source target
    pub array : a < array_count source
    pub inside : v < count_of target

  pub record WriteFits (a : ℕ) (value : Form) : Type 0 where
    pub way : IsWay source target
    pub before : a < array_count source
    pub inside : a < array_count target
    pub form : IsForm (count_of source) value

  -- ---- conditions

  pub record KeepFits (f : Form) : Type 0 where
    pub way : IsWay source target
    pub form : IsForm (count_of source) f

  pub record TestFits (f : Form) (low high : ℤ) : Type 0 where
    pub way : IsWay source target
    pub form : IsForm (count_of source) f
    pub low_small : unsigned_abs (low -ℤ f.constant) < 2 ^ 50
    pub high_small : unsigned_abs (f.constant -ℤ high) < 2 ^ 50

  -- ---- loops and inputs

  pub record TurnFits (growths : List Growth) : Type 0 where
    pub way : IsWay source target
    pub counters : AreCounters source target growths

  pub record TieFits (counter loop_step v : ℕ) : Type 0 where
    pub way : IsWay source target
    pub counter_inside : counter < count_of source
    pub inside : v < count_of source
    pub stepping : 1 ≤ loop_step

  pub record InputsFit (scalars arrays : List Given) : Type 0 where
    pub way : IsWay source target
    pub variables : All (λ (g : Given). g.target < count_of target) scalars
    pub stored : All (λ (g : Given). g.target < array_count target) arrays

  -- ---- calls

  pub record EnterFits (picks arrays : List (Option ℕ)) (arguments : List Argument) : Type 0 where
    pub source_shape : IsShape source
    pub target_shape : IsShape target
    pub few : count_of target < 2 ^ 32
    pub few_arrays : array_count target < 2 ^ 32
    pub long : length picks ≡ count_of target
    pub arrays_long : length arrays ≡ array_count target
    pub picked : ArePicks (count_of source) picks
    pub arrays_picked : ArePicks (array_count source) arrays
    pub given : All (IsArgument (count_of source) (count_of target)) arguments

  -- with the shape of the call's node
  pub record LeaveFits (call : Shape) (from_call from_exit arrays : List (Option ℕ)) (result : Option Returned) : Type 0 where
    pub call_shape : IsShape call
    pub source_shape : IsShape source
    pub target_shape : IsShape target
    pub few : count_of target < 2 ^ 32
    pub call_long : length from_call ≡ count_of target
    pub exit_long : length from_exit ≡ count_of target
    pub arrays_long : length arrays ≡ array_count target
    pub call_picked : ArePicks (count_of call) from_call
    pub exit_picked : ArePicks (count_of source) from_exit
    pub arrays_picked : ArePicks (array_count source) arrays
    pub returns : IsResult (count_of target) (count_of source) result
