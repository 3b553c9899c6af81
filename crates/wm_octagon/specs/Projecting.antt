-- Octagons of picked variables, beside others that have any number of a range.
use Rattle.std.specs.Prelude.{ℕ, ◌≡◌, ◌<◌, ◌+◌, ◌*◌, ◌/◌, ◌%◌, ℤ, List, length, slice_index_or, Option, Some, None}
use Rattle.wm_interval.specs.declared.Interval.{Interval}
use Rattle.wm_numbers.specs.Within.{Within}
use Rattle.wm_octagon.specs.Changes.{apart}
use Rattle.wm_octagon.specs.Ranges.{low_of, high_of, range_top}
use Rattle.wm_octagon.specs.View.{OctagonView, Holds}

-- the old variable that is picked as variable v, or None
abbrev pub picked : List (Option ℕ) → ℕ → Option ℕ
picked keep v = slice_index_or keep v None

-- the old side that side k is, where its variable is the picked one
abbrev pub side_by : Option ℕ → ℕ → Option ℕ
side_by None k = None
side_by (Some v) k = Some (2 * v + k % 2)

abbrev pub source : List (Option ℕ) → ℕ → Option ℕ
source keep k = side_by (picked keep (k / 2)) k

-- the greatest value of a side: that of its old side, or the end of its range
abbrev pub top_by : Option ℕ → (ℕ → ℤ) → ℤ → ℤ
top_by None old end = end
top_by (Some i) old end = old i

abbrev pub drawn_top : List (Option ℕ) → List Interval → (ℕ → ℤ) → ℕ → ℤ
drawn_top keep rs old k = top_by (source keep k) old (range_top rs k)

-- the bound of two sides: that of their old sides, or the one that they have apart from each other
abbrev pub between : Option ℕ → Option ℕ → (ℕ → ℕ → ℤ) → ℤ → ℤ
between None j m alone = alone
between (Some i) None m alone = alone
between (Some i) (Some j) m alone = m i j

abbrev pub projected : List (Option ℕ) → (ℕ → ℤ) → (ℕ → ℕ → ℤ) → ℕ → ℕ → ℤ
projected keep tops m k l = between (source keep k) (source keep l) m (apart tops k l)

-- z is the old value of the picked variable, or any number between two ends
abbrev pub IsPicked : Option ℕ → ℤ → ℤ → (ℕ → ℤ) → ℤ → Type 0
IsPicked None low high was z = Within low high z
IsPicked (Some v) low high was z = z ≡ was v

-- at a point of the octagon, each variable of x has the value of the one that is picked for it, or any number of its range
pub record ProjectedOf (o : OctagonView) (keep : List (Option ℕ)) (rs : List Interval) (x : ℕ → ℤ) : Type 0 where
  pub was : ℕ → ℤ
  pub point : Holds o was
  pub each : (v : ℕ) → v < length keep → IsPicked (picked keep v) (low_of rs v) (high_of rs v) was (x v)

-- each place picks the variable of its own number
abbrev pub ArePicked : List (Option ℕ) → Type 0
ArePicked keep = (v : ℕ) → v < length keep → picked keep v ≡ Some v

-- the places pick all variables of an octagon that has so many sides, each its own
pub record IsOwn (keep : List (Option ℕ)) (sides : ℕ) : Type 0 where
  pub long : 2 * length keep ≡ sides
  pub each : ArePicked keep
