-- Numbers between two ends, both included: the ranges of the types and of the intervals.
use Rattle.std.specs.Prelude.{ℤ, pos, negsuc, ◌≤ℤ◌}

-- z is at least `low` and at most `high`
pub record Within (low high z : ℤ) : Type 0 where
  pub above : low ≤ℤ z
  pub below : z ≤ℤ high

-- z is a number of the type Word16, from -32768 to 32767
abbrev pub IsWord16 : ℤ → Type 0
IsWord16 z = Within (negsuc 32767) (pos 32767) z

-- z is a number of the type Word32, from -2147483648 to 2147483647
abbrev pub IsWord32 : ℤ → Type 0
IsWord32 z = Within (negsuc 2147483647) (pos 2147483647) z
