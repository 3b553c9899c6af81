-- Results of plain operations on numbers of 32 bits of two forms.
use Rattle.std.specs.Prelude.{ℤ, ◌≤ℤ◌, ◌≤◌, ◌^◌, Option, Some, None}
use Rattle.wm_numbers.specs.Within.{IsWord32}
use Rattle.wm_interval.specs.declared.Interval.{Interval}
use Rattle.wm_interval.specs.Holds.{Holds, SizesAtMost, SizesBelow}
use Rattle.wm_domain.specs.declared.form.Form.{Form}
use Rattle.wm_domain.specs.Points.{Point}
use Rattle.wm_assign.specs.Giving.{InRange}

-- a number of the form's range that has 32 bits
abbrev pub InWord32 : (Point → Type 0) → Form → ℤ → Type 0
InWord32 Has f z = InRange Has f z × IsWord32 z

-- z has 32 bits and lies between two results of the operation on such numbers of the operands
pub record InResults (Has : Point → Type 0) (operation : ℤ → ℤ → ℤ) (f g : Form) (z : ℤ) : Type 0 where
  pub a : ℤ
  pub b : ℤ
  pub c : ℤ
  pub d : ℤ
  pub a_in : InWord32 Has f a
  pub b_in : InWord32 Has g b
  pub c_in : InWord32 Has f c
  pub d_in : InWord32 Has g d
  pub above : operation a b ≤ℤ z
  pub below : z ≤ℤ operation c d
  pub fits : IsWord32 z

-- the interval holds exactly the numbers of 32 bits of the form; none where there are none
pub record HoldsOperand (Has : Point → Type 0) (f : Form) (r : Interval) : Type 0 where
  pub sizes : SizesAtMost (2 ^ 31) r
  pub below : SizesBelow (2 ^ 62) r
  pub all : (z : ℤ) → InWord32 Has f z → Holds r z
  pub only : (z : ℤ) → Holds r z → InWord32 Has f z

abbrev pub IsOperand : (Point → Type 0) → Form → Option Interval → Type 0
IsOperand Has f None = (z : ℤ) → InWord32 Has f z → ⊥
IsOperand Has f (Some r) = HoldsOperand Has f r
