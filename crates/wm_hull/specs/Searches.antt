-- The search for the first arguments at which a test holds, place after place.
use Rattle.std.specs.Prelude.{ℤ, Bool, IsTrue, ◌≤ℤ◌}
use Rattle.wm_hull.specs.Boxes.{InBoxes}
use Rattle.wm_hull.specs.Failures.{Somewhere}
use Rattle.wm_interval.specs.Holds.{Holds}
use Rattle.wm_interval.specs.declared.Interval.{Interval}

-- the search in the first box has come to `left`: the test holds at some arguments in it, and at none below it
pub record SearchedFirst (t : ℤ → ℤ → ℤ → Bool) (x y z left : Interval) : Type 0 where
  pub low_in : Holds x left.low
  pub high_in : Holds x left.high
  pub found : Somewhere t left y z
  pub before : (a b c : ℤ) → InBoxes x y z a b c → IsTrue (t a b c) → left.low ≤ℤ a

-- the same of the second box
pub record SearchedSecond (t : ℤ → ℤ → ℤ → Bool) (x y z left : Interval) : Type 0 where
  pub low_in : Holds y left.low
  pub high_in : Holds y left.high
  pub found : Somewhere t x left z
  pub before : (a b c : ℤ) → InBoxes x y z a b c → IsTrue (t a b c) → left.low ≤ℤ b

-- the same of the third box
pub record SearchedThird (t : ℤ → ℤ → ℤ → Bool) (x y z left : Interval) : Type 0 where
  pub low_in : Holds z left.low
  pub high_in : Holds z left.high
  pub found : Somewhere t x y left
  pub before : (a b c : ℤ) → InBoxes x y z a b c → IsTrue (t a b c) → left.low ≤ℤ c
