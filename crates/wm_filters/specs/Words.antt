-- The numbers of 32 bits of an interval.
use Rattle.std.specs.Prelude.{ℤ, ◌-ℤ◌, Option, Some, None}
use Rattle.wm_numbers.specs.Within.{IsWord32}
use Rattle.wm_interval.specs.declared.Interval.{Interval}
use Rattle.wm_interval.specs.Holds.{Holds}
use Rattle.wm_domain.specs.States.{IsSized}

-- the answer holds the numbers of the interval that have 32 bits, and its ends are small; none where there are none
abbrev pub IsWords : Interval → Option Interval → Type 0
IsWords r None = (z : ℤ) → Holds r z → IsWord32 z → ⊥
IsWords r (Some w) = IsSized w × ((z : ℤ) → Holds r z → IsWord32 z → Holds w z)

-- the answer holds the differences of two numbers of 32 bits in the interval, and its ends are small
abbrev pub AreDifferences : Interval → Option Interval → Type 0
AreDifferences d None = (z w : ℤ) → IsWord32 z → IsWord32 w → Holds d (z -ℤ w) → ⊥
AreDifferences d (Some r) = IsSized r × ((z w : ℤ) → IsWord32 z → IsWord32 w → Holds d (z -ℤ w) → Holds r (z -ℤ w))
