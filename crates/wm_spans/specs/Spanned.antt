-- What ranges of variables and summaries of arrays are seen as, and their points.
use Rattle.std.specs.Prelude.{ℕ, ◌≡◌, ◌<◌, ◌≤ℤ◌, Bool, false, List, length, slice_index_or}
use Rattle.wm_interval.specs.declared.Interval.{Interval}
use Rattle.wm_interval.specs.Holds.{Holds}
use Rattle.wm_arrays.specs.declared.summary.Summary.{Summary}
use Rattle.wm_arrays.specs.declared.summary.Summary.TheVariants.{Empty, Range}
use Rattle.wm_domain.specs.Points.{Point, range_at, IsNarrow, AllowsCell}

-- the full ranges of the variables and of the cells of the arrays, those that there are now, and whether there is no point
pub record Spanned : Type 0 where
  pub full : List Interval
  pub array_full : List Interval
  pub ranges : List Interval
  pub cells : List Summary
  pub empty : Bool

abbrev pub cell_at : List Summary → ℕ → Summary
cell_at cs a = slice_index_or cs a Empty

-- the range lies in the full one
pub record Lies (full r : Interval) : Type 0 where
  pub above : full.low ≤ℤ r.low
  pub below : r.high ≤ℤ full.high

abbrev pub CellsLie : Interval → Summary → Type 0
CellsLie full Empty = Unit {0}
CellsLie full (Range r) = Lies full r

-- one range and one summary for each full range, each within it; the full ranges of variables have 32 bits
pub record IsKept (full array_full ranges : List Interval) (cells : List Summary) : Type 0 where
  pub ranges_long : length ranges ≡ length full
  pub cells_long : length cells ≡ length array_full
  pub narrow : (v : ℕ) → v < length full → IsNarrow (range_at full v)
  pub ranges_lie : (v : ℕ) → v < length full → Lies (range_at full v) (range_at ranges v)
  pub cells_lie : (a : ℕ) → a < length array_full → CellsLie (range_at array_full a) (cell_at cells a)

abbrev pub Kept : Spanned → Type 0
Kept s = IsKept s.full s.array_full s.ranges s.cells

-- each number lies in its range, and each set cell in its summary
pub record In (s : Spanned) (p : Point) : Type 0 where
  pub some : s.empty ≡ false
  pub kept : Kept s
  pub numbers : (v : ℕ) → v < length s.full → Holds (range_at s.ranges v) (p.values v)
  pub cells : (a : ℕ) → a < length s.array_full → AllowsCell (cell_at s.cells a) (p.cells a)
