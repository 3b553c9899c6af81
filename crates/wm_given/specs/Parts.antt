-- The part of an interval in which a form lies.
use Rattle.std.specs.Prelude.{ℤ, ◌↔◌, Option, Some, None}
use Rattle.wm_interval.specs.declared.Interval.{Interval}
use Rattle.wm_interval.specs.Holds.{Holds}
use Rattle.wm_domain.specs.declared.form.Form.{Form}
use Rattle.wm_domain.specs.Points.{Point}
use Rattle.wm_assign.specs.Giving.{InRange}

-- the answer holds the numbers of the interval between two values of the form; none where there are none
abbrev pub IsCut : (Point → Type 0) → Form → Interval → Option Interval → Type 0
IsCut Has f all None = (z : ℤ) → InRange Has f z → Holds all z → ⊥
IsCut Has f all (Some r) = (z : ℤ) → Holds r z ↔ (InRange Has f z × Holds all z)
