-- What an interval holds, and when it is the least that holds a set of numbers.
use Rattle.std.specs.Prelude.{ℕ, ℤ, ◌⊎◌, ◌<◌, ◌≤◌, unsigned_abs}
use Rattle.wm_interval.specs.declared.Interval.{Interval}
use Rattle.wm_numbers.specs.Extremes.{LeastOf, GreatestOf, ResultOf2}
use Rattle.wm_numbers.specs.Within.{Within}

-- z is a number of the interval
abbrev pub Holds : Interval → ℤ → Type 0
Holds i z = Within i.low i.high z

-- the ends of the interval are the least and the greatest number that the fact holds of
pub record IsHullOf (Is : ℤ → Type 0) (i : Interval) : Type 0 where
  pub low_is : LeastOf Is i.low
  pub high_is : GreatestOf Is i.high

-- z is a number of one of the two intervals
abbrev pub InEither : Interval → Interval → ℤ → Type 0
InEither a b z = Holds a z ⊎ Holds b z

-- z is a number of both
abbrev pub InBoth : Interval → Interval → ℤ → Type 0
InBoth a b z = Holds a z × Holds b z

-- z is what f gives at a number of the first interval and a number of the second
abbrev pub ResultOn : (ℤ → ℤ → ℤ) → Interval → Interval → ℤ → Type 0
ResultOn f a b z = ResultOf2 f a.low a.high b.low b.high z

-- both ends are below n in size
pub record SizesBelow (n : ℕ) (i : Interval) : Type 0 where
  pub low_size : unsigned_abs i.low < n
  pub high_size : unsigned_abs i.high < n

-- both ends are at most n in size
pub record SizesAtMost (n : ℕ) (i : Interval) : Type 0 where
  pub low_size : unsigned_abs i.low ≤ n
  pub high_size : unsigned_abs i.high ≤ n
