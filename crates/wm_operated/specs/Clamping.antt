-- Results that are sums or differences of two variables.
use Rattle.std.specs.Prelude.{ℕ, ◌≡◌, ◌≢◌, Bool, ℤ, List, Option, Some, None}
use Rattle.wm_numbers.specs.Within.{Within}
use Rattle.wm_interval.specs.declared.Interval.{Interval}
use Rattle.wm_interval.specs.Holds.{IsHullOf}
use Rattle.wm_ops.specs.declared.operators.Op.{Op}
use Rattle.wm_ops.specs.Operators.{result_width_of}
use Rattle.wm_domain.specs.declared.form.Form.{Form}
use Rattle.wm_domain.specs.Points.{Point}
use Rattle.wm_domain.specs.Changes.{IsFormValue}
use Rattle.wm_step.specs.Operating.{sum_sign, sum_form, form_at, variable_of, clamped_to}
use Rattle.wm_operated.specs.declared.sums.Pair.{Pair}

-- the operator adds the two variables, which are its arguments, or takes the second away
pub record Adds (op : Op) (args : List Form) (pair : Pair) : Type 0 where
  pub sign : sum_sign op ≡ Some pair.away
  pub first : variable_of (form_at args 0) ≡ Some pair.first
  pub second : variable_of (form_at args 1) ≡ Some pair.second
  pub apart : pair.first ≢ pair.second

-- the answer is the pair that is added; none where there is none
abbrev pub IsPair : Op → List Form → Option Pair → Type 0
IsPair op args None = (pair : Pair) → Adds op args pair → ⊥
IsPair op args (Some pair) = Adds op args pair

-- z lies between the clamps of each sum of two variables that the operator is
abbrev pub IsClamped : (Point → Type 0) → Op → List Form → ℤ → Type 0
IsClamped Has op args z =
    (v w : ℕ) (away : Bool) → sum_sign op ≡ Some away → variable_of (form_at args 0) ≡ Some v → variable_of (form_at args 1) ≡ Some w → v ≢ w
    → (sums : Interval) → IsHullOf (IsFormValue Has (sum_form v w away)) sums
    → Within (clamped_to (result_width_of op) sums.low) (clamped_to (result_width_of op) sums.high) z

-- the answer is the pair of the two variables, where there are two different ones; none where there are not
abbrev pub AreDifferent : Option ℕ → Option ℕ → Bool → Option Pair → Type 0
AreDifferent first second away None = (v w : ℕ) → first ≡ Some v → second ≡ Some w → v ≢ w → ⊥
AreDifferent first second away (Some pair) = (first ≡ Some pair.first) × (second ≡ Some pair.second) × (pair.first ≢ pair.second) × (pair.away ≡ away)
