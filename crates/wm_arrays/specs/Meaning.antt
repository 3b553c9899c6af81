-- What a summary says of an array, whose cells are numbers or unset.
use Rattle.std.specs.Prelude.{◌≡◌, ℕ, ◌<◌, ℤ, ◌⊎◌, List, Option, Some, None, length, slice_index_or, slice_set}
use Rattle.wm_interval.specs.declared.Interval.{Interval}
use Rattle.wm_interval.specs.Holds.{Holds, IsHullOf}
use Rattle.wm_arrays.specs.declared.summary.Summary.{Summary}
use Rattle.wm_arrays.specs.declared.summary.Summary.TheVariants.{Empty, Range}

-- a set cell may be z
abbrev pub Allows : Summary → ℤ → Type 0
Allows Empty z = ⊥
Allows (Range i) z = Holds i z

-- each set cell of the array is one that the summary allows
pub record AllowsEach (s : Summary) (cells : List (Option ℤ)) : Type 0 where
  pub each : (k : ℕ) (z : ℤ) → slice_index_or cells k None ≡ Some z → Allows s z

-- each number that the first allows the second allows
abbrev pub IsIncluded : Summary → Summary → Type 0
IsIncluded a b = (z : ℤ) → Allows a z → Allows b z

-- the second says no more of an array than the first
abbrev pub IncludesEach : Summary → Summary → Type 0
IncludesEach a b = (cells : List (Option ℤ)) → AllowsEach a cells → AllowsEach b cells

-- z is allowed by one of the two
abbrev pub IsEither : Summary → Summary → ℤ → Type 0
IsEither a b z = Allows a z ⊎ Allows b z

-- the summary is the least that allows each number that the fact holds of: its ends are such numbers, and it is empty
-- where there is none
abbrev pub IsLeastFor : (ℤ → Type 0) → Summary → Type 0
IsLeastFor Is Empty = (z : ℤ) → Is z → ⊥
IsLeastFor Is (Range i) = IsHullOf Is i

-- after a number of r was written to any cell of an array of this length that s holds of, t holds of it
abbrev pub KeepsWrites : Summary → Interval → ℕ → Summary → Type 0
KeepsWrites s r n t =
    (cells : List (Option ℤ)) (k : ℕ) (z : ℤ) → length cells ≡ n → k < n → AllowsEach s cells → Holds r z → AllowsEach t (slice_set cells k (Some z))

-- no lesser summary holds after each such write
abbrev pub IsLeastKeeping : Summary → Interval → ℕ → Summary → Type 0
IsLeastKeeping s r n t = (u : Summary) → KeepsWrites s r n u → IsIncluded t u
