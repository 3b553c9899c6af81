-- The points between a call's node and the callee's first node.
use Rattle.std.specs.Prelude.{ℕ, ◌≡◌, ◌<◌, List, length}
use Rattle.wm_domain.specs.declared.shape.Shape.{Shape}
use Rattle.wm_domain.specs.Points.{Point}
use Rattle.wm_domain.specs.States.{InShape}
use Rattle.wm_middle.specs.declared.parts.Part.{Part}
use Rattle.wm_middle.specs.declared.parts.Part.TheVariants.{Caller}
use Rattle.wm_middle.specs.Parting.{part_at, part_value}

-- the variables of the caller have their numbers there, the parameters those that they get, and the arrays the callee's cells
abbrev pub middle_point : List Part → Point → Point → Point
middle_point parts was p = record { values = λ k. part_value was p (part_at parts k); cells = p.cells }

-- where a condition holds of a point of the caller and one of the callee, the point between stays
pub record Crosses {S : Type 0} (Holds_of : S → Point → Type 0) (shape : Shape) (parts : List Part) (old new : S) (Cond : Point → Point → Type 0) : Type 0 where
  pub kept : (was p : Point) → InShape shape (middle_point parts was p) → Holds_of old (middle_point parts was p) → Cond was p → Holds_of new (middle_point parts was p)

-- different parts, of which the caller's are among so many variables
pub record AreTaken (n : ℕ) (parts : List Part) : Type 0 where
  pub each : (k v : ℕ) → k < length parts → part_at parts k ≡ Caller v → v < n
  pub distinct : (k l : ℕ) → k < length parts → l < length parts → part_at parts k ≡ part_at parts l → k ≡ l
