-- What a machine holds while it runs, and how an evaluation over it ends. It notes no list of what has happened: it adds
-- up the weights of counted words, and groups failures as they come.
use Rattle.std.specs.Prelude.{◌≡◌, ℕ, zero, suc, ◌+◌, Bool, true, false, List, [], ◌∷◌, ℤ, pos, Option, Some, None, Result, Ok, Err}
use Rattle.wm_ops.specs.declared.words.Counted.{Counted}
use Rattle.wm_ops.specs.declared.words.Counted.TheVariants as counted
use Rattle.wm_ops.specs.declared.words.ControlWord.{ControlWord}
use Rattle.wm_program.specs.declared.results.Cause.{Cause}
use Rattle.wm_program.specs.declared.results.End.{End}
use Rattle.wm_program.specs.declared.results.End.TheVariants as ends
use Rattle.wm_program.specs.declared.results.Event.{Event}
use Rattle.wm_program.specs.State.{State, Place, number_at, put, flagged, set_number}
use Rattle.wm_program.specs.Runs.{weight_in, with_event}
use Rattle.wm_interp.specs.declared.halt.Halt.{Halt}
use Rattle.wm_interp.specs.declared.halt.Halt.TheVariants.{Over, Refused}
use Rattle.wm_interp.specs.declared.halt.Flow.{Flow}
use Rattle.wm_interp.specs.declared.halt.Flow.TheVariants.{Next, Broke, Continued, Returned}

-- a state whose log is left empty, and in its place the count and the failures so far
pub record Held : Type 0 where
  pub state : State
  pub count : ℕ
  pub events : List Event

-- a value and what is held then, or how the run has ended
pub data Gets (A : Type 0) : Type 0 where
  Has : A → Held → Gets A
  Ends : End → Held → Gets A

-- one thing, and then another with its value
abbrev pub then_on : {A B : Type 0} → Gets A → (A → Held → Gets B) → Gets B
then_on (Has x q) go = go x q
then_on (Ends end q) go = Ends end q

-- a statement, and then what follows it
abbrev pub go_on : Gets Flow → (Held → Gets Flow) → Gets Flow
go_on (Has Next q) go = go q
go_on (Has Broke q) go = Has Broke q
go_on (Has Continued q) go = Has Continued q
go_on (Has (Returned z) q) go = Has (Returned z) q
go_on (Ends end q) go = Ends end q

-- an answer of the machine is this one, but memory may run out, and a program that was never linked is refused
abbrev pub Goes : {A : Type 0} → Result A Halt → Held → Gets A → Type 0
Goes (Ok x) q got = got ≡ Has x q
Goes (Err (Over end)) q got = got ≡ Ends end q
Goes (Err (Refused refusal)) q got = Unit {0}

-- the same of what a value shows
abbrev pub GoesBy : {X A : Type 0} → (X → A) → Result X Halt → Held → Gets A → Type 0
GoesBy view (Ok x) q got = got ≡ Has (view x) q
GoesBy view (Err (Over end)) q got = got ≡ Ends end q
GoesBy view (Err (Refused refusal)) q got = Unit {0}

-- ---- what is noted

abbrev pub with_count : ℕ → Held → Held
with_count weight q = record q { count = q.count + weight }

abbrev pub failed_on : ℕ → Cause → Held → Held
failed_on site cause q = record q { events = with_event site cause q.events }

abbrev pub failed_if_on : Bool → ℕ → Cause → Held → Held
failed_if_on true site cause q = failed_on site cause q
failed_if_on false site cause q = q

abbrev pub put_on : Place → ℤ → Held → Held
put_on place z q = record q { state = put place z q.state }

abbrev pub flagged_on : Bool → Held → Held
flagged_on flag q = record q { state = flagged flag q.state }

-- ---- an elementary step

abbrev pub step_left : ℕ → Held → Gets (Unit {0})
step_left zero q = Ends ends.StepLimit q
step_left (suc left) q = Has tt (record q { state = record q.state { steps = left } })

abbrev pub step_on : Held → Gets (Unit {0})
step_on q = step_left q.state.steps q

-- a site is tested: where its operation fails so, the run stops there
abbrev pub tested_on : {A : Type 0} → ℕ → Cause → Bool → A → Held → Gets A
tested_on site cause true x q = Ends (ends.Stopped site cause) (failed_on site cause q)
tested_on site cause false x q = Has x q
