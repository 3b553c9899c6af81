-- Saturation: the nearest number between two ends.
use Rattle.std.specs.Prelude.{ℤ, pos, negsuc}
use Rattle.std.specs.Int.{int_max, int_min}

-- z itself between `low` and `high`, else the end that it passes
unfoldable pub clamp : ℤ → ℤ → ℤ → ℤ
clamp low high z = int_max low (int_min high z)

-- the nearest number of the type Word16
abbrev pub clamp16 : ℤ → ℤ
clamp16 z = clamp (negsuc 32767) (pos 32767) z

-- the nearest number of the type Word32
abbrev pub clamp32 : ℤ → ℤ
clamp32 z = clamp (negsuc 2147483647) (pos 2147483647) z
