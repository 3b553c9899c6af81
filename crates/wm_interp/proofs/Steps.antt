-- A step that is made.
use Rattle.std.proofs.Common.{◌≡◌, ℕ, zero, suc, ◌-◌, ◌<◌, refl, arith, ap}
use Rattle.wm_interp.specs.Held.{Held, Gets, Has, step_left}

pub step_made : (n : ℕ) (q : Held) → 0 < n → step_left n q ≡ Has tt (record q { state = record q.state { steps = n - 1 } })
step_made zero q h = absurd (omega arith)
step_made (suc n) q h = let e : n ≡ suc n - 1 = omega arith in ap (λ k. Has tt (record q { state = record q.state { steps = k } })) e
