-- Points whose cells differ in some arrays.
use Rattle.std.specs.Prelude.{ℕ, ◌≡◌, ◌<◌, List}
use Rattle.wm_domain.specs.Points.{Point}
use Rattle.wm_carry.specs.Following.{IsApart}

-- the two have the same numbers at so many variables, and the same cells at so many arrays but some
pub record IsFilled (variables arrays : ℕ) (targets : List ℕ) (was p : Point) : Type 0 where
  pub numbers : (v : ℕ) → v < variables → p.values v ≡ was.values v
  pub cells : (a : ℕ) → a < arrays → IsApart targets a → p.cells a ≡ was.cells a
