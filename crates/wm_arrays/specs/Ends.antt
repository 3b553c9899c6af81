-- Summaries as plain numbers: the two ends of the interval, or none where no cell is set.
use Rattle.std.specs.Prelude.{ℕ, ℤ, Option, Some, None, if◌then◌else◌, ◌==◌}
use Rattle.std.specs.Int.{int_max, int_min}
use Rattle.wm_arrays.specs.declared.summary.Summary.{Summary}
use Rattle.wm_arrays.specs.declared.summary.Summary.TheVariants.{Empty, Range}

abbrev pub ends_of : Summary → Option (ℤ × ℤ)
ends_of Empty = None
ends_of (Range i) = Some (i.low, i.high)

-- the ends of the least summary that holds both
abbrev pub joined : Option (ℤ × ℤ) → Option (ℤ × ℤ) → Option (ℤ × ℤ)
joined None b = b
joined (Some a) None = Some a
joined (Some a) (Some b) = Some (int_min a.0 b.0, int_max a.1 b.1)

-- the ends after a number from `low` to `high` was written to an array of this length
abbrev pub written : Option (ℤ × ℤ) → ℤ → ℤ → ℕ → Option (ℤ × ℤ)
written a low high length = if length == 1 then Some (low, high) else joined a (Some (low, high))
