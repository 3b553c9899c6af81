-- The numbers that a cast to 16 bits can give.
use Rattle.std.specs.Prelude.{ℤ, ◌↔◌, Option, Some, None}
use Rattle.wm_numbers.specs.Within.{IsWord16}
use Rattle.wm_interval.specs.declared.Interval.{Interval}
use Rattle.wm_interval.specs.Holds.{Holds}
use Rattle.wm_domain.specs.declared.form.Form.{Form}
use Rattle.wm_domain.specs.Points.{Point}
use Rattle.wm_domain.specs.Forms.{form_value}
use Rattle.wm_domain.specs.States.{IsBare, IsSized}
use Rattle.wm_assign.specs.Giving.{InRange}

-- z has 16 bits, and lies in the form's range where that has 16 bits
pub record InCast (Has : Point → Type 0) (f : Form) (z : ℤ) : Type 0 where
  pub fits : IsWord16 z
  pub kept : ((x : Point) → Has x → IsWord16 (form_value x.values f)) → InRange Has f z

-- the interval is the range where that has 16 bits, and holds exactly all such numbers else
pub record IsNarrowed (range r : Interval) : Type 0 where
  pub sized : IsSized r
  pub all : (z : ℤ) → IsWord16 z → (IsWord16 range.low → IsWord16 range.high → Holds range z) → Holds r z
  pub only : (z : ℤ) → Holds r z → IsWord16 z × (IsWord16 range.low → IsWord16 range.high → Holds range z)

abbrev pub IsCastRange : (Point → Type 0) → Form → Option Interval → Type 0
IsCastRange Has f None = IsBare Has
IsCastRange Has f (Some r) = IsSized r × ((z : ℤ) → InCast Has f z ↔ Holds r z)
