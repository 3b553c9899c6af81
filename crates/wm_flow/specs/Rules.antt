-- What the actions of the edges do in a run, said of concrete stores; and the steps of a relation along the edges of a
-- graph.
use Rattle.std.specs.Prelude.{◌≡◌, ℕ, zero, suc, ◌+◌, ◌*◌, ◌-◌, ◌^◌, ◌<◌, min, Bool, true, false, if◌then◌else◌, ◌==◌, List, [], ◌∷◌, ◌++◌, length, map, ℤ, pos, ◌≤ℤ◌, Option, Some, None, slice_get, slice_set, slice_index_or}
use Rattle.std.specs.List.{All}
use Rattle.wm_numbers.specs.Within.{IsWord32}
use Rattle.wm_ops.specs.Arguments.{HasWidth}
use Rattle.wm_ops.specs.Operators.{arg_widths_of}
use Rattle.wm_ops.specs.Outcomes.{outcome_of}
use Rattle.wm_ops.specs.declared.operators.Op.{Op}
use Rattle.wm_ops.specs.declared.operators.Width.{Width}
use Rattle.wm_ops.specs.declared.operators.Width.TheVariants.{W16}
use Rattle.wm_ops.specs.declared.outcomes.Outcome.{Outcome}
use Rattle.wm_ops.specs.declared.outcomes.Outcome.TheVariants as outcome
use Rattle.wm_domain.specs.declared.form.Form.{Form}
use Rattle.wm_domain.specs.declared.form.Relation.{Relation}
use Rattle.wm_domain.specs.declared.form.Relation.TheVariants as relation
use Rattle.wm_program.specs.declared.results.Cause.TheVariants as cause
use Rattle.wm_program.specs.Numbers.{plain_of, cast_to}
use Rattle.wm_program.specs.State.{Note, Counts, Evaluated, Failed, Entered, Turned}
use Rattle.wm_flow.specs.declared.action.Argument.{Argument}
use Rattle.wm_flow.specs.declared.action.Growth.{Growth}
use Rattle.wm_flow.specs.declared.action.Returned.{Returned}
use Rattle.wm_flow.specs.Plain.{Range, Layout, Bounded, Doing, Arc, AssignForm, Plain, Cast, AssignRange, SetArray, Operate, Read, Write, Clear, Keep, Test, Count, Enter, Leave, Reset, Turn, Tie, Inputs}
use Rattle.wm_flow.specs.Kept.{at, form_value}
use Rattle.wm_flow.specs.Points.{Store, Within, CellsIn, StoreOf, Carries, FollowsBut, Picks, PicksCells}

-- ---- values

-- the values of forms
abbrev pub values_at : List ℤ → List Form → List ℤ
values_at point forms = map (form_value point) forms

abbrev pub operand : List ℤ → List Form → ℕ → ℤ
operand point args k = slice_index_or (values_at point args) k (pos 0)

abbrev pub outcome_at : List ℤ → Op → List Form → Outcome
outcome_at point op args = outcome_of op (operand point args 0) (operand point args 1) (operand point args 2)

-- each argument that the operator takes lies in its type
abbrev pub ArgumentsFit : List Width → List ℤ → Type 0
ArgumentsFit [] values = Unit {0}
ArgumentsFit (width ∷ widths) [] = ⊥
ArgumentsFit (width ∷ widths) (z ∷ values) = HasWidth width z × ArgumentsFit widths values

-- the operator gives this value in its variable, and Overflow is 1 where it flags
abbrev pub Operated : List ℤ → List ℤ → (target overflow : ℕ) → Outcome → Type 0
Operated before after target overflow (outcome.Value value saturates flag) =
    (at after target ≡ value) × (target ≡ overflow → ⊥)
    × (at after overflow ≡ (if flag then pos 1 else at before overflow))
Operated before after target overflow outcome.OutOfDomain = ⊥

abbrev pub Stands : Relation → ℤ → Type 0
Stands relation.AtMost z = z ≤ℤ pos 0
Stands relation.Equal z = z ≡ pos 0
Stands relation.NotEqual z = z ≡ pos 0 → ⊥

-- ---- cells

abbrev pub cells_at : Store → ℕ → List (Option ℤ)
cells_at store array = slice_index_or store.cells array []

-- some cell of the array holds the number
abbrev pub HoldsIn : Store → (array : ℕ) → ℤ → Type 0
HoldsIn store array z = (index : ℕ) × (slice_get (cells_at store array) index ≡ Some (Some z))

-- some cell of the array is now this number
abbrev pub Writes : Store → Store → (array length : ℕ) → ℤ → Type 0
Writes before after array count z =
    (index : ℕ) × (index < count) × (count ≡ length (cells_at before array))
    × (after.cells ≡ slice_set before.cells array (slice_set (cells_at before array) index (Some z)))

-- ---- counters

-- a counter after so many turns: it sticks at the greatest number of 32 bits
unfoldable pub counted : (turns step : ℕ) → ℤ
counted turns step = pos (min (2 ^ 31 - 1) (turns * step))

abbrev pub Counted : ℕ → List ℤ → List Growth → Type 0
Counted turns point growths = All (λ (growth : Growth). at point growth.variable ≡ counted turns growth.step) growths

-- a sum counter has made as many turns as its loop's counter
abbrev pub Tied : List ℤ → (counter loop_step v step : ℕ) → Type 0
Tied point counter loop_step v step =
    (turns : ℕ) × (at point counter ≡ counted turns loop_step) × (at point v ≡ counted turns step)

-- ---- what an edge does, but for a return and the turns of loops

abbrev pub Given : List ℤ → List Bounded → Type 0
Given point scalars = All (λ (it : Bounded). Within it.range (at point it.target)) scalars

-- the cells of an input array
abbrev pub GivenCells : List (List (Option ℤ)) → List (List (Option ℤ)) → List Bounded → Type 0
GivenCells before after arrays =
    ((array : ℕ) → All (λ (it : Bounded). it.target ≡ array → ⊥) arrays → slice_get after array ≡ slice_get before array)
    × All (λ (it : Bounded). CellsIn (Some it.range) (slice_index_or after it.target [])) arrays

unfoldable pub Does : Layout → Layout → Doing → Store → Store → Type 0
Does source target (AssignForm v form) before after =
    Carries source target (v ∷ []) before after × (at after.point v ≡ form_value before.point form)
Does source target (Plain mark args v) before after =
    Carries source target (v ∷ []) before after × All IsWord32 (values_at before.point args)
    × (at after.point v ≡ plain_of mark (operand before.point args 0) (operand before.point args 1))
Does source target (Cast form v) before after =
    Carries source target (v ∷ []) before after × (at after.point v ≡ cast_to W16 (form_value before.point form))
Does source target (AssignRange v range) before after =
    Carries source target (v ∷ []) before after × Within range (at after.point v)
Does source target (SetArray array summary) before after =
    FollowsBut source target [] before.point after.point
    × (after.cells ≡ slice_set before.cells array (cells_at after array)) × CellsIn summary (cells_at after array)
Does source target (Operate op args v overflow) before after =
    Carries source target (v ∷ overflow ∷ []) before after × ArgumentsFit (arg_widths_of op) (values_at before.point args)
    × Operated before.point after.point v overflow (outcome_at before.point op args)
Does source target (Read array v) before after =
    Carries source target (v ∷ []) before after × HoldsIn before array (at after.point v)
Does source target (Write array form count) before after =
    FollowsBut source target [] before.point after.point
    × Writes before after array count (form_value before.point form)
Does source target (Clear variables) before after = Carries source target variables before after
Does source target (Keep form relation) before after =
    Carries source target [] before after × Stands relation (form_value before.point form)
Does source target (Test args form low high how) before after =
    Carries source target [] before after × Within (record { low = low; high = high }) (form_value before.point form)
Does source target (Count word) before after = Carries source target [] before after
Does source target (Enter picks arrays arguments) before after =
    Picks before.point picks after.point × PicksCells before.cells arrays after.cells
    × All (λ (argument : Argument). at after.point argument.parameter ≡ form_value before.point argument.form) arguments
Does source target (Leave call from_call from_exit arrays result) before after = ⊥
Does source target (Reset counters) before after =
    Carries source target counters before after × All (λ counter. at after.point counter ≡ pos 0) counters
Does source target (Turn growths) before after = ⊥
Does source target (Tie counter loop_step v step) before after =
    Carries source target [] before after × Tied before.point counter loop_step v step
Does source target (Inputs scalars arrays) before after =
    FollowsBut source target (map (λ (it : Bounded). it.target) scalars) before.point after.point
    × Given after.point scalars × GivenCells before.cells after.cells arrays

-- a return: what the callee leaves, and what stands at the call
abbrev pub ReturnsResult : List ℤ → List ℤ → Option Returned → Type 0
ReturnsResult exit after None = Unit {0}
ReturnsResult exit after (Some it) = at after it.target ≡ at exit it.at_exit

pub record Returns (from_call from_exit arrays : List (Option ℕ)) (result : Option Returned) (call exit after : Store) : Type 0 where
  pub own : Picks call.point from_call after.point
  pub static : Picks exit.point from_exit after.point
  pub cells : PicksCells exit.cells arrays after.cells
  pub returned : ReturnsResult exit.point after.point result

-- ---- what is noted on an edge

abbrev pub evaluated : Option ℕ → List Note
evaluated None = []
evaluated (Some site) = Evaluated site ∷ []

abbrev pub operated : Option ℕ → Outcome → List Note
operated None it = []
operated (Some site) (outcome.Value value saturates flag) =
    Evaluated site ∷ (if saturates then Failed site cause.Saturates ∷ [] else [])
operated (Some site) outcome.OutOfDomain = Evaluated site ∷ []

unfoldable pub notes : Doing → Option ℕ → List ℤ → List Note
notes (AssignForm v form) site point = []
notes (Plain mark args v) site point = evaluated site
notes (Cast form v) site point = []
notes (AssignRange v range) site point = []
notes (SetArray array summary) site point = []
notes (Operate op args v overflow) site point = operated site (outcome_at point op args)
notes (Read array v) site point = []
notes (Write array form count) site point = []
notes (Clear variables) site point = []
notes (Keep form relation) site point = []
notes (Test args form low high how) site point = evaluated site
notes (Count word) site point = Counts word ∷ []
notes (Enter picks arrays arguments) site point = []
notes (Leave call from_call from_exit arrays result) site point = []
notes (Reset counters) site point = []
notes (Turn growths) site point = []
notes (Tie counter loop_step v step) site point = []
notes (Inputs scalars arrays) site point = []

-- ---- steps along the edges

-- where a run stands in a graph: the node, what it holds, and what was noted
pub record At : Type 0 where
  pub node : ℕ
  pub store : Store
  pub log : List Note

abbrev pub at_node : ℕ → Store → List Note → At
at_node node store log = record { node = node; store = store; log = log }

-- A relation that goes on along the edges of a graph: R leads from one place to another, and L h i from a place before a
-- loop to its head h after i turns. The layout of each node and the loop of each head are given.
module _ (layout : ℕ → Layout) (loop_of : ℕ → ℕ) (R : At → At → Type 0) (L : ℕ → ℕ → At → At → Type 0) where
  -- an ordinary edge
  abbrev pub Goes : Arc → Type 0
  Goes arc =
      (before after : Store) (log : List Note)
      → StoreOf (layout arc.source) before → StoreOf (layout arc.target) after
      → Does (layout arc.source) (layout arc.target) arc.doing before after
      → R (at_node arc.source before log) (at_node arc.target after (log ++ notes arc.doing arc.site before.point))

  -- the edge into a loop, which has made no turn
  abbrev pub Enters : Arc → Type 0
  Enters arc =
      (before after : Store) (log : List Note)
      → StoreOf (layout arc.source) before → StoreOf (layout arc.target) after
      → Does (layout arc.source) (layout arc.target) arc.doing before after
      → L arc.target 0 (at_node arc.source before log) (at_node arc.target after (log ++ Entered (loop_of arc.target) ∷ []))

  -- a back edge: one more turn, behind what came from the head to its source
  abbrev pub TurnsAgain : Arc → List Growth → Type 0
  TurnsAgain arc growths =
      (turns : ℕ) (start : At) (head before after : Store) (first log : List Note)
      → L arc.target turns start (at_node arc.target head first)
      → R (at_node arc.target head first) (at_node arc.source before log)
      → Counted turns before.point growths → Counted (suc turns) after.point growths
      → Carries (layout arc.source) (layout arc.target) (map (λ (growth : Growth). growth.variable) growths) before after
      → StoreOf (layout arc.source) before → StoreOf (layout arc.target) after
      → L arc.target (suc turns) start (at_node arc.target after (log ++ Turned (loop_of arc.target) (suc turns) ∷ []))

  -- a return: behind what came from the call's node to the exit
  abbrev pub ComesBack : Arc → (call : ℕ) → (from_call from_exit arrays : List (Option ℕ)) → Option Returned → Type 0
  ComesBack arc call from_call from_exit arrays result =
      (calling before after : Store) (first log : List Note)
      → StoreOf (layout call) calling → StoreOf (layout arc.source) before → StoreOf (layout arc.target) after
      → Returns from_call from_exit arrays result calling before after
      → R (at_node call calling first) (at_node arc.source before log)
      → R (at_node call calling first) (at_node arc.target after log)

  -- the step along an edge
  unfoldable pub StepOf : Arc → Doing → Type 0
  StepOf arc (AssignForm v form) = Goes arc
  StepOf arc (Plain mark args v) = Goes arc
  StepOf arc (Cast form v) = Goes arc
  StepOf arc (AssignRange v range) = Goes arc
  StepOf arc (SetArray array summary) = Goes arc
  StepOf arc (Operate op args v overflow) = Goes arc
  StepOf arc (Read array v) = Goes arc
  StepOf arc (Write array form count) = Goes arc
  StepOf arc (Clear variables) = Goes arc
  StepOf arc (Keep form relation) = Goes arc
  StepOf arc (Test args form low high how) = Goes arc
  StepOf arc (Count word) = Goes arc
  StepOf arc (Enter picks arrays arguments) = Goes arc
  StepOf arc (Leave call from_call from_exit arrays result) = ComesBack arc call from_call from_exit arrays result
  StepOf arc (Reset counters) = Enters arc
  StepOf arc (Turn growths) = TurnsAgain arc growths
  StepOf arc (Tie counter loop_step v step) = Goes arc
  StepOf arc (Inputs scalars arrays) = Goes arc

  -- the steps along all edges
  abbrev pub Steps : List Arc → Type 0
  Steps [] = Unit {0}
  Steps (arc ∷ rest) = StepOf arc arc.doing × Steps rest

-- What else a relation must obey: it holds of a place and itself, it goes on, and a loop is left from its head.
module _ (R : At → At → Type 0) (L : ℕ → ℕ → At → At → Type 0) where
  pub record Rules : Type 0 where
    pub here : (a : At) → R a a
    pub on : (a b c : At) → R a b → R b c → R a c
    pub out : (head turns : ℕ) (a b c : At) → L head turns a b → R b c → R a c
