-- The boxes of operands: the ranges of their forms at the points of a state, cut to the numbers of their types.
use Rattle.std.specs.Prelude.{ℤ}
use Rattle.wm_numbers.specs.Within.{Within}
use Rattle.wm_interval.specs.declared.Interval.{Interval}
use Rattle.wm_interval.specs.Holds.{Holds, IsHullOf}
use Rattle.wm_domain.specs.Points.{Point}
use Rattle.wm_domain.specs.Changes.{IsFormValue}
use Rattle.wm_domain.specs.Forms.{form_value}
use Rattle.wm_domain.specs.declared.form.Form.{Form}

-- z is a number of the range from `low` to `high`
abbrev pub IsCut : Interval → (low high : ℤ) → ℤ → Type 0
IsCut range low high z = Holds range z × Within low high z

-- the box is what the range of the form at the points has from `low` to `high`
pub record IsBox (Has : Point → Type 0) (form : Form) (low high : ℤ) (box : Interval) : Type 0 where
  pub range : Interval
  pub is : IsHullOf (IsFormValue Has form) range
  pub cut : IsHullOf (IsCut range low high) box

-- nothing is left of the range of the form from `low` to `high`; where there is no point there is no range
abbrev pub HasNoBox : (Point → Type 0) → Form → (low high : ℤ) → Type 0
HasNoBox Has form low high = (range : Interval) → IsHullOf (IsFormValue Has form) range → (z : ℤ) → IsCut range low high z → ⊥

-- at each point the value of the form lies from `low` to `high`
abbrev pub Stays : (Point → Type 0) → Form → (low high : ℤ) → Type 0
Stays Has form low high = (p : Point) → Has p → Within low high (form_value p.values form)
