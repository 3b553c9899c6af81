-- Variables and arrays that are picked.
use Rattle.std.specs.Prelude.{ℕ, ◌≡◌, ◌<◌, ◌+◌, nat_lt, List, length, slice_index_or, Option, Some, None, if◌then◌else◌}
use Rattle.wm_interval.specs.declared.Interval.{Interval}
use Rattle.wm_interval.specs.Holds.{Holds, IsHullOf}
use Rattle.wm_domain.specs.Points.{Point, range_at}
use Rattle.wm_domain.specs.Changes.{IsValueOf}

-- a point at which the variable that is picked, if one is, lies in r
pub record IsPickedIn (Has : Point → Type 0) (r : Interval) (pick : Option ℕ) (p : Point) : Type 0 where
  pub point : Has p
  pub number : (v : ℕ) → pick ≡ Some v → Holds r (p.values v)

-- a point at which each variable that is picked at one of n places from a first one lies in the range for that place
pub record ArePicked (Has : Point → Type 0) (full : List Interval) (picks : List (Option ℕ)) (first n : ℕ) (p : Point) : Type 0 where
  pub point : Has p
  pub numbers : (k v : ℕ) → k < n → slice_index_or picks (first + k) None ≡ Some v → Holds (range_at full k) (p.values v)

-- the range of the picked variable; the full one where none is picked
abbrev pub IsDrawnRange : (Point → Type 0) → Option ℕ → Interval → Interval → Type 0
IsDrawnRange Has None full r = r ≡ full
IsDrawnRange Has (Some v) full r = IsHullOf (IsValueOf Has v) r

-- the picked variable, if it is one of the first n
abbrev pub kept_pick : ℕ → Option ℕ → Option ℕ
kept_pick n None = None
kept_pick n (Some v) = if nat_lt v n then Some v else None

-- a point at which each of the first n variables lies in its range
pub record AreWithin (Has : Point → Type 0) (ranges : List Interval) (n : ℕ) (p : Point) : Type 0 where
  pub point : Has p
  pub numbers : (k : ℕ) → k < n → Holds (range_at ranges k) (p.values k)
