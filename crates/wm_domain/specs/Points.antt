-- Points of abstract states: a number for each variable and, for each array, what one of its cells holds.
use Rattle.std.specs.Prelude.{ℕ, ◌≡◌, ◌≢◌, ◌<◌, ℤ, pos, List, length, slice_index_or, Option, Some, None}
use Rattle.wm_interval.specs.declared.Interval.{Interval}
use Rattle.wm_interval.specs.Holds.{Holds}
use Rattle.wm_numbers.specs.Within.{IsWord32}
use Rattle.wm_arrays.specs.declared.summary.Summary.{Summary}
use Rattle.wm_arrays.specs.Meaning.{Allows}

-- a cell that is unset is None
pub record Point : Type 0 where
  pub values : ℕ → ℤ
  pub cells : ℕ → Option ℤ

-- the range at a place of a list
abbrev pub nought : Interval
nought = record { low = pos 0; high = pos 0; ordered = record { le = tt } }

abbrev pub range_at : List Interval → ℕ → Interval
range_at rs v = slice_index_or rs v nought

-- both ends have 32 bits
pub record IsNarrow (r : Interval) : Type 0 where
  pub low_fits : IsWord32 r.low
  pub high_fits : IsWord32 r.high

-- the cell is unset, or holds a number that the summary allows
abbrev pub AllowsCell : Summary → Option ℤ → Type 0
AllowsCell s None = Unit {0}
AllowsCell s (Some z) = Allows s z

-- each number lies in the full range of its variable, and each cell that is set in that of its array
pub record IsInside (full array_full : List Interval) (p : Point) : Type 0 where
  pub numbers : (v : ℕ) → v < length full → Holds (range_at full v) (p.values v)
  pub set_cells : (a : ℕ) (z : ℤ) → a < length array_full → p.cells a ≡ Some z → Holds (range_at array_full a) z

-- the two have the same numbers at all variables but v, and the same cells
pub record SameBut (v : ℕ) (p q : Point) : Type 0 where
  pub numbers : (w : ℕ) → w ≢ v → q.values w ≡ p.values w
  pub cells : (a : ℕ) → q.cells a ≡ p.cells a

-- the two have the same numbers, and the same cells at all arrays but a
pub record SameButCell (a : ℕ) (p q : Point) : Type 0 where
  pub numbers : (w : ℕ) → q.values w ≡ p.values w
  pub cells : (b : ℕ) → b ≢ a → q.cells b ≡ p.cells b

-- the two have the same numbers at so many variables, and the same cells at so many arrays
pub record Alike (variables arrays : ℕ) (p q : Point) : Type 0 where
  pub numbers : (v : ℕ) → v < variables → q.values v ≡ p.values v
  pub cells : (a : ℕ) → a < arrays → q.cells a ≡ p.cells a
