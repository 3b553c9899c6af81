-- Points of a state that stay where a condition holds of them.
use Rattle.std.specs.Prelude.{ℕ, ◌≡◌, ◌≢◌, ◌<◌}
use Rattle.wm_domain.specs.declared.shape.Shape.{Shape}
use Rattle.wm_domain.specs.Points.{Point}
use Rattle.wm_domain.specs.States.{InShape}

-- each point in the full ranges that the old state has, and of which the condition holds, is one of the new state
pub record Stays {S : Type 0} (Holds_of : S → Point → Type 0) (shape : Shape) (old new : S) (Cond : Point → Type 0) : Type 0 where
  pub kept : (p : Point) → InShape shape p → Holds_of old p → Cond p → Holds_of new p

-- the two have the same numbers at so many variables, and the same cells at so many arrays but a
pub record SameBeside (variables arrays a : ℕ) (was p : Point) : Type 0 where
  pub numbers : (v : ℕ) → v < variables → p.values v ≡ was.values v
  pub cells : (b : ℕ) → b < arrays → b ≢ a → p.cells b ≡ was.cells b
