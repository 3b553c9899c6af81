-- The sizes of what is drawn.
use Rattle.std.specs.Prelude.{ℕ, ℤ, pos, negsuc, ◌<◌, ◌≤◌}
use Rattle.wm_numbers.specs.Within.{Within}
use Rattle.wm_domain.specs.declared.shape.Shape.{Shape}
use Rattle.wm_domain.specs.States.{IsShape, count_of, array_count}

-- a number of at most 20 in size
abbrev pub IsTiny : ℤ → Type 0
IsTiny z = Within (negsuc 19) (pos 20) z

-- one to four variables and at most two arrays
pub record IsSmall (shape : Shape) : Type 0 where
  pub proper : IsShape shape
  pub some : 0 < count_of shape
  pub few : count_of shape ≤ 4
  pub arrays : array_count shape ≤ 2
