-- What is held of a state: the count and the grouped failures in place of its log.
use Rattle.std.specs.Prelude.{◌≡◌, ℕ, [], ℤ, Option, Some}
use Rattle.wm_ops.specs.declared.words.Counted.{Counted}
use Rattle.wm_program.specs.State.{State}
use Rattle.wm_program.specs.Outcomes.{Got, Gives, Halts, Ran, Next, Broke, Continued, Returned, Halted}
use Rattle.wm_program.specs.Runs.{count_of, grouped}
use Rattle.wm_interp.specs.declared.halt.Flow.{Flow}
use Rattle.wm_interp.specs.declared.halt.Flow.TheVariants as flow
use Rattle.wm_interp.specs.Held.{Held, Gets, Has, Ends}
use Rattle.wm_interp.specs.Frames.{Stand, stand_in}

-- a state without its log
abbrev pub bare : State → State
bare s = record s { log = [] }

abbrev pub seen : (Counted → Option ℕ) → State → Held
seen weights s = record { state = bare s; count = count_of weights s.log; events = grouped [] s.log }

abbrev pub show : {A : Type 0} → (Counted → Option ℕ) → Got A → Gets A
show weights (Gives x s) = Has x (seen weights s)
show weights (Halts end s) = Ends end (seen weights s)

abbrev pub show_run : (Counted → Option ℕ) → Ran → Gets Flow
show_run weights (Next s) = Has flow.Next (seen weights s)
show_run weights (Broke s) = Has flow.Broke (seen weights s)
show_run weights (Continued s) = Has flow.Continued (seen weights s)
show_run weights (Returned z s) = Has (flow.Returned z) (seen weights s)
show_run weights (Halted end s) = Ends end (seen weights s)

-- the machine stands where the run has come to
abbrev pub Stands : (Counted → Option ℕ) → Got ℤ → Option Stand → Type 0
Stands weights ran stand = stand ≡ Some (stand_in (show weights ran))
