-- The lemmas on what joins two executions, each by cases of one outcome.
use Rattle.std.proofs.Common.{◌≡◌, ℕ, zero, suc, Bool, true, false, refl}
use Rattle.wm_program.specs.State.{State}
use Rattle.wm_program.specs.Outcomes.{Got, Gives, Halts, Ran, Next, Broke, Continued, Returned, Halted, step_from, with_step, then_go, then_get, then_run, choose}

pub then_go-then_go : (ran : Ran) (f g : State → Ran) → then_go (then_go ran f) g ≡ then_go ran (λ s. then_go (f s) g)
then_go-then_go (Next s) f g = refl
then_go-then_go (Broke s) f g = refl
then_go-then_go (Continued s) f g = refl
then_go-then_go (Returned z s) f g = refl
then_go-then_go (Halted end s) f g = refl

pub then_get-then_get : {A B C : Type 0} (got : Got A) (f : A → State → Got B) (g : B → State → Got C) → then_get (then_get got f) g ≡ then_get got (λ x s. then_get (f x s) g)
then_get-then_get (Gives x s) f g = refl
then_get-then_get (Halts end s) f g = refl

pub then_go-then_run : {A : Type 0} (got : Got A) (f : A → State → Ran) (g : State → Ran) → then_go (then_run got f) g ≡ then_run got (λ x s. then_go (f x s) g)
then_go-then_run (Gives x s) f g = refl
then_go-then_run (Halts end s) f g = refl

pub then_go-choose : (got : Got Bool) (f other g : State → Ran) → then_go (choose got f other) g ≡ choose got (λ s. then_go (f s) g) (λ s. then_go (other s) g)
then_go-choose (Gives true s) f other g = refl
then_go-choose (Gives false s) f other g = refl
then_go-choose (Halts end s) f other g = refl

pub then_go-step_from : (left : ℕ) (s : State) (f g : State → Ran) → then_go (step_from left s f) g ≡ step_from left s (λ s. then_go (f s) g)
then_go-step_from zero s f g = refl
then_go-step_from (suc left) s f g = refl

pub then_go-with_step : (s : State) (f g : State → Ran) → then_go (with_step s f) g ≡ with_step s (λ s. then_go (f s) g)
then_go-with_step s f g = then_go-step_from s.steps s f g

pub then_go-Next : (ran : Ran) → then_go ran Next ≡ ran
then_go-Next (Next s) = refl
then_go-Next (Broke s) = refl
then_go-Next (Continued s) = refl
then_go-Next (Returned z s) = refl
then_go-Next (Halted end s) = refl
