-- The least and the greatest number that a fact holds of. Where the fact says 'some argument in the box gives z',
-- these are the exact ends of a function's results over the box: they speak of all its arguments.
use Rattle.std.specs.Prelude.{ℤ, ◌≡◌, ◌≤ℤ◌}
use Rattle.wm_numbers.specs.Within.{Within}

-- the fact holds of `low`, and of no number below
pub record LeastOf (Holds : ℤ → Type 0) (low : ℤ) : Type 0 where
  pub attained : Holds low
  pub least : (z : ℤ) → Holds z → low ≤ℤ z

-- the fact holds of `high`, and of no number above
pub record GreatestOf (Holds : ℤ → Type 0) (high : ℤ) : Type 0 where
  pub attained : Holds high
  pub greatest : (z : ℤ) → Holds z → z ≤ℤ high

-- z is what f gives at some number between the ends
pub record ResultOf1 (f : ℤ → ℤ) (low high z : ℤ) : Type 0 where
  pub x : ℤ
  pub x_in : Within low high x
  pub gives : f x ≡ z

-- z is what f gives at some pair of numbers, each between its two ends
pub record ResultOf2 (f : ℤ → ℤ → ℤ) (low1 high1 low2 high2 z : ℤ) : Type 0 where
  pub x : ℤ
  pub y : ℤ
  pub x_in : Within low1 high1 x
  pub y_in : Within low2 high2 y
  pub gives : f x y ≡ z
