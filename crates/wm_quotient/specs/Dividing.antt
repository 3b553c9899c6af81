-- What an interval holds of the quotients of two.
use Rattle.std.specs.Prelude.{ℤ, ◌≤ℤ◌, int_div}
use Rattle.wm_numbers.specs.Within.{IsWord32}
use Rattle.wm_interval.specs.declared.Interval.{Interval}
use Rattle.wm_interval.specs.Holds.{Holds}

-- each number of 32 bits between two quotients by this number
abbrev pub HoldsQuotientsBy : Interval → (divisor : ℤ) → Interval → Type 0
HoldsQuotientsBy x divisor r =
    (a c z : ℤ) → Holds x a → Holds x c → int_div a divisor ≤ℤ z → z ≤ℤ int_div c divisor → IsWord32 z → Holds r z

-- each number of 32 bits between two quotients by numbers of the second interval
abbrev pub HoldsQuotients : Interval → Interval → Interval → Type 0
HoldsQuotients x y r =
    (a b c d z : ℤ) → Holds x a → Holds y b → Holds x c → Holds y d → int_div a b ≤ℤ z → z ≤ℤ int_div c d → IsWord32 z → Holds r z
