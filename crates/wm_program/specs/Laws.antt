-- Laws on what joins two executions.
use Rattle.std.specs.Prelude.{◌≡◌, Bool, ℤ}
use Rattle.wm_program.specs.State.{State}
use Rattle.wm_program.specs.Outcomes.{Got, Ran, Next, with_step, then_go, then_get, then_run, choose}

-- one thing after another, and a third behind both
abbrev pub GoesOn : Type 0
GoesOn = (ran : Ran) (f g : State → Ran) → then_go (then_go ran f) g ≡ then_go ran (λ s. then_go (f s) g)

abbrev pub GetsOn : Type 0
GetsOn =
    (got : Got ℤ) (f g : ℤ → State → Got ℤ)
    → then_get (then_get got f) g ≡ then_get got (λ z s. then_get (f z s) g)

abbrev pub RunsOn : Type 0
RunsOn =
    (got : Got ℤ) (f : ℤ → State → Ran) (g : State → Ran)
    → then_go (then_run got f) g ≡ then_run got (λ z s. then_go (f z s) g)

-- what follows a choice follows each of its ways
abbrev pub ChoosesOn : Type 0
ChoosesOn =
    (got : Got Bool) (f other g : State → Ran)
    → then_go (choose got f other) g ≡ choose got (λ s. then_go (f s) g) (λ s. then_go (other s) g)

-- a step that is made takes one of those that are left; where none is left, nothing follows
abbrev pub StepsOn : Type 0
StepsOn =
    (s : State) (f g : State → Ran) → then_go (with_step s f) g ≡ with_step s (λ s. then_go (f s) g)

-- nothing behind a statement changes nothing
abbrev pub GoesNowhere : Type 0
GoesNowhere = (ran : Ran) → then_go ran Next ≡ ran
