-- Division by a power of two, rounded down.
use Rattle.std.specs.Prelude.{ℕ, ℤ, pos, ◌^◌}
use Rattle.std.specs.Int.{int_div_euclid}

-- the greatest whole number at most z / 2^n: what an arithmetic shift to the right by n places gives
abbrev pub floor_shift : ℤ → ℕ → ℤ
floor_shift z n = int_div_euclid z (pos (2 ^ n))
