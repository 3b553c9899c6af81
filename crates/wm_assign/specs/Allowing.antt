-- What a value allows.
use Rattle.std.specs.Prelude.{ℕ, ◌<◌, ℤ, ◌-ℤ◌, Option, Some, None}
use Rattle.wm_interval.specs.Holds.{Holds}
use Rattle.wm_domain.specs.declared.shape.Shape.{Shape}
use Rattle.wm_domain.specs.Points.{Point}
use Rattle.wm_domain.specs.States.{count_of, IsSized}
use Rattle.wm_assign.specs.declared.values.Value.{Value}
use Rattle.wm_assign.specs.declared.values.Value.TheVariants.{Any, Near}
use Rattle.wm_assign.specs.Giving.{IsSeen}

abbrev pub Allowed : Option Value → Point → ℤ → Type 0
Allowed None was z = ⊥
Allowed (Some (Any r)) was z = Holds r z
Allowed (Some (Near from d r)) was z = Holds r z × Holds d (z -ℤ was.values from)

-- the ranges are small, and the variable is one of the first node
abbrev pub IsFit : Shape → Shape → ℕ → Option Value → Type 0
IsFit source target v None = Unit {0}
IsFit source target v (Some (Any r)) = IsSized r
IsFit source target v (Some (Near from d r)) = IsSized d × IsSized r × (from < count_of source) × IsSeen source target v from
