-- How an execution goes on, and what joins two of them. Each of these looks at one outcome.
use Rattle.std.specs.Prelude.{ℕ, zero, suc, Bool, true, false, ℤ, pos}
use Rattle.wm_program.specs.declared.results.Cause.{Cause}
use Rattle.wm_program.specs.declared.results.End.{End}
use Rattle.wm_program.specs.declared.results.End.TheVariants as ends
use Rattle.wm_program.specs.State.{Evaluated, Failed}
use Rattle.wm_struct_run.specs.Memory.{State, noted}

-- what an evaluation gives: a value, or no more since the run has ended so
pub data Got (A : Type 0) : Type 0 where
  Gives : A → State → Got A
  Halts : End → State → Got A

-- how a statement ends: what follows is next, the loop around it is left or turned, the function returns a number (one
-- that nobody reads, where it has no result), or the run has ended so
pub data Ran : Type 0 where
  Next : State → Ran
  Broke : State → Ran
  Continued : State → Ran
  Returned : ℤ → State → Ran
  Halted : End → State → Ran

abbrev pub step_from : ℕ → State → (State → Ran) → Ran
step_from zero s go = Halted ends.StepLimit s
step_from (suc left) s go = go (record s { steps = left })

-- one elementary step, and then `go`
abbrev pub with_step : State → (State → Ran) → Ran
with_step s go = step_from s.steps s go

-- a statement, and then `go`
abbrev pub then_go : Ran → (State → Ran) → Ran
then_go (Next s) go = go s
then_go (Broke s) go = Broke s
then_go (Continued s) go = Continued s
then_go (Returned z s) go = Returned z s
then_go (Halted end s) go = Halted end s

-- an evaluation, and then another with its value
abbrev pub then_get : {A B : Type 0} → Got A → (A → State → Got B) → Got B
then_get (Gives x s) go = go x s
then_get (Halts end s) go = Halts end s

-- an evaluation, and then a statement with its value
abbrev pub then_run : {A : Type 0} → Got A → (A → State → Ran) → Ran
then_run (Gives x s) go = go x s
then_run (Halts end s) go = Halted end s

-- a condition, and then one of two ways
abbrev pub choose : Got Bool → (State → Ran) → (State → Ran) → Ran
choose (Gives true s) go other = go s
choose (Gives false s) go other = other s
choose (Halts end s) go other = Halted end s

-- the body of a loop, and then the next turn
abbrev pub turn_on : Ran → (State → Ran) → Ran
turn_on (Next s) go = go s
turn_on (Broke s) go = Next s
turn_on (Continued s) go = go s
turn_on (Returned z s) go = Returned z s
turn_on (Halted end s) go = Halted end s

-- the body of a function, back at its call. A break or a continue outside of loops does not stand in a program.
abbrev pub back : Ran → Got ℤ
back (Next s) = Gives (pos 0) s
back (Broke s) = Gives (pos 0) s
back (Continued s) = Gives (pos 0) s
back (Returned z s) = Gives z s
back (Halted end s) = Halts end s

-- a site is evaluated: where its operation fails so, the run stops there
abbrev pub tested : {A : Type 0} → ℕ → Cause → Bool → State → (State → Got A) → Got A
tested site cause true s go = Halts (ends.Stopped site cause) (noted (Failed site cause) (noted (Evaluated site) s))
tested site cause false s go = go (noted (Evaluated site) s)
