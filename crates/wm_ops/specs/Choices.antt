-- The greater and the lesser of two numbers.
use Rattle.std.specs.Prelude.{ℤ}
use Rattle.std.specs.Int.{int_max, int_min}
use Rattle.wm_ops.specs.declared.clamping.Clamped.{Clamped}
use Rattle.wm_ops.specs.Clamping.{exact}

abbrev pub max_of : ℤ → ℤ → Clamped
max_of a b = exact (int_max a b)

abbrev pub min_of : ℤ → ℤ → Clamped
min_of a b = exact (int_min a b)
