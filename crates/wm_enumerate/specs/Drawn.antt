-- The sizes of drawn numbers, and of the values that an octagon leaves a variable.
use Rattle.std.specs.Prelude.{ℕ, ℤ, pos, negsuc, ◌≤◌, ◌<◌}
use Rattle.wm_interval.specs.declared.Interval.{Interval}
use Rattle.wm_numbers.specs.Within.{Within}
use Rattle.wm_octagon.specs.View.{OctagonView, Holds}

-- a number of at most 12 in size
abbrev pub IsTiny : ℤ → Type 0
IsTiny z = Within (negsuc 11) (pos 12) z

pub record IsTinyRange (r : Interval) : Type 0 where
  pub low : IsTiny r.low
  pub high : IsTiny r.high

-- at each point the variable is at most 1000 in size
pub record IsLowAt (o : OctagonView) (v : ℕ) : Type 0 where
  pub each : (x : ℕ → ℤ) → Holds o x → Within (negsuc 999) (pos 1000) (x v)
