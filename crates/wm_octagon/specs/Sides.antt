-- Signed variables, and what an octagon tells of them.
use Rattle.std.specs.Prelude.{ℕ, ◌≡◌, ◌≢◌, ◌+◌, ◌*◌, ℤ, ◌+ℤ◌, ◌≤ℤ◌, neg_ℤ, if◌then◌else◌}
use Rattle.wm_numbers.specs.Extremes.{LeastOf, GreatestOf}
use Rattle.wm_numbers.specs.Within.{Within}
use Rattle.wm_octagon.specs.declared.octagon.Side.{Side}
use Rattle.wm_octagon.specs.View.{OctagonView, Holds}

-- the number of the side in a half table
abbrev pub number_of : Side → ℕ
number_of s = if s.negative then 2 * s.variable + 1 else 2 * s.variable

-- the side's value at a point
abbrev pub signed : (ℕ → ℤ) → Side → ℤ
signed x s = if s.negative then neg_ℤ (x s.variable) else x s.variable

-- z is the value of variable v at a point
pub record IsValueOf (o : OctagonView) (v : ℕ) (z : ℤ) : Type 0 where
  pub x : ℕ → ℤ
  pub point : Holds o x
  pub gives : x v ≡ z

-- these are the least and the greatest value of variable v
pub record IsRangeOf (o : OctagonView) (v : ℕ) (low high : ℤ) : Type 0 where
  pub least : LeastOf (IsValueOf o v) low
  pub greatest : GreatestOf (IsValueOf o v) high

-- z is the value of the sum of two sides at a point
pub record IsSumOf (o : OctagonView) (a b : Side) (z : ℤ) : Type 0 where
  pub x : ℕ → ℤ
  pub point : Holds o x
  pub gives : signed x a +ℤ signed x b ≡ z

-- z is the greatest value of that sum
abbrev pub IsGreatestSum : OctagonView → Side → Side → ℤ → Type 0
IsGreatestSum o a b z = GreatestOf (IsSumOf o a b) z

-- a point of the octagon at which the sum of two sides is at most c
pub record WithSum (o : OctagonView) (a b : Side) (c : ℤ) (x : ℕ → ℤ) : Type 0 where
  pub point : Holds o x
  pub bounded : (signed x a +ℤ signed x b) ≤ℤ c

-- a point of the octagon at which variable v lies between two ends
pub record WithRange (o : OctagonView) (v : ℕ) (low high : ℤ) (x : ℕ → ℤ) : Type 0 where
  pub point : Holds o x
  pub inside : Within low high (x v)

-- a point of the octagon, but for variable v, which has any number between two ends
pub record FreedOf (o : OctagonView) (v : ℕ) (low high : ℤ) (x : ℕ → ℤ) : Type 0 where
  pub was : ℕ → ℤ
  pub point : Holds o was
  pub others : (w : ℕ) → w ≢ v → x w ≡ was w
  pub value : Within low high (x v)
