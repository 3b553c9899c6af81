-- What is known of the result beside a first argument that is a variable.
use Rattle.std.specs.Prelude.{ℕ, ◌≡◌, ◌<◌, ℤ, ◌-ℤ◌, List, Some}
use Rattle.wm_numbers.specs.Within.{IsWord32}
use Rattle.wm_interval.specs.declared.Interval.{Interval}
use Rattle.wm_interval.specs.Holds.{Holds}
use Rattle.wm_ops.specs.declared.operators.Op.{Op}
use Rattle.wm_domain.specs.declared.form.Form.{Form}
use Rattle.wm_domain.specs.declared.shape.Shape.{Shape}
use Rattle.wm_domain.specs.Points.{Point}
use Rattle.wm_domain.specs.States.{count_of}
use Rattle.wm_assign.specs.Giving.{IsSeen}
use Rattle.wm_step.specs.Operating.{IsChange, form_at, variable_of}

-- z differs from a number by what the operator adds
abbrev pub DiffersFrom : Op → List Interval → ℤ → ℤ → Type 0
DiffersFrom op boxes x z = (d : Interval) → IsChange op boxes d → Holds d (z -ℤ x)

-- it differs so from the first argument, where that is a variable
abbrev pub Differs : Op → List Form → List Interval → Point → ℤ → Type 0
Differs op args boxes was z = (w : ℕ) → variable_of (form_at args 0) ≡ Some w → DiffersFrom op boxes (was.values w) z

-- a first argument that is a variable has 32 bits
abbrev pub HasWord : List Form → Point → Type 0
HasWord args was = (w : ℕ) → variable_of (form_at args 0) ≡ Some w → IsWord32 (was.values w)

-- a first argument that is a variable is one of the first node, with one number in both nodes where v is new
abbrev pub IsSeenBy : Shape → Shape → ℕ → List Form → Type 0
IsSeenBy s t v args = (w : ℕ) → variable_of (form_at args 0) ≡ Some w → (w < count_of s) × IsSeen s t v w
