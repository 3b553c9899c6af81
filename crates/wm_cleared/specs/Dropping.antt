-- Variables that begin anew.
use Rattle.std.specs.Prelude.{ℕ, ◌≡◌, pos, List, [], All}
use Rattle.wm_domain.specs.declared.shape.Shape.{Shape}
use Rattle.wm_domain.specs.Points.{Point}
use Rattle.wm_carry.specs.Following.{Moved}

-- what follows a state, with some counters at 0
pub record Reset (source target : Shape) (Has : Point → Type 0) (counters : List ℕ) (p : Point) : Type 0 where
  pub moved : Moved source target Has counters [] p
  pub zero : All (λ c. p.values c ≡ pos 0) counters
