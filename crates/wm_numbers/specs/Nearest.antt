-- What makes a clamp the right one: no number of the range is nearer.
use Rattle.std.specs.Prelude.{ℤ, ◌≤◌, ◌-ℤ◌, unsigned_abs}
use Rattle.wm_numbers.specs.Within.{Within}

-- c lies in the range, and no number of the range is nearer to z
pub record NearestIn (low high z c : ℤ) : Type 0 where
  pub inside : Within low high c
  pub nearest : (w : ℤ) → Within low high w → unsigned_abs (z -ℤ c) ≤ unsigned_abs (z -ℤ w)
