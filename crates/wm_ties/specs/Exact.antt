-- What is told of an octagon of variables of 32 bits, and the points that its calls leave.
use Rattle.std.specs.Prelude.{ℕ, ◌≡◌, ◌≢◌, ◌<◌, ℤ, ◌+ℤ◌, ◌-ℤ◌, List, length}
use Rattle.wm_numbers.specs.Within.{Within, IsWord32}
use Rattle.wm_interval.specs.declared.Interval.{Interval}
use Rattle.wm_domain.specs.declared.form.Term.{Term}
use Rattle.wm_domain.specs.Points.{range_at}
use Rattle.wm_domain.specs.Forms.{term_value}
use Rattle.wm_octagon.specs.View.{OctagonView, Holds}

-- there is a point
pub record HasPoint (o : OctagonView) : Type 0 where
  pub x : ℕ → ℤ
  pub is : Holds o x

-- a point gives each variable a number of 32 bits
pub record IsNarrowly (o : OctagonView) : Type 0 where
  pub words : (x : ℕ → ℤ) → Holds o x → (v : ℕ) → v < o.variables → IsWord32 (x v)

-- what is kept beside an octagon of 32-bit variables: how many there are
pub record IsTies (o : OctagonView) (count : ℕ) : Type 0 where
  pub narrow : IsNarrowly o
  pub counted : count ≡ o.variables

-- z is the sum of two terms at a point
pub record IsPairValue (o : OctagonView) (a b : Term) (z : ℤ) : Type 0 where
  pub x : ℕ → ℤ
  pub point : Holds o x
  pub gives : term_value x a +ℤ term_value x b ≡ z

-- a point at which the sum of two terms lies between two ends
pub record SumWithin (o : OctagonView) (a b : Term) (low high : ℤ) (x : ℕ → ℤ) : Type 0 where
  pub point : Holds o x
  pub inside : Within low high (term_value x a +ℤ term_value x b)

-- a point, but for variable v, which has a number of r that differs from the term by a number of d
pub record Follows (o : OctagonView) (v : ℕ) (t : Term) (d r : Interval) (x : ℕ → ℤ) : Type 0 where
  pub was : ℕ → ℤ
  pub point : Holds o was
  pub others : (w : ℕ) → w ≢ v → x w ≡ was w
  pub value : Within r.low r.high (x v)
  pub near : Within d.low d.high (x v -ℤ term_value was t)

-- the same without a range
pub record Beside (o : OctagonView) (v : ℕ) (t : Term) (d : Interval) (x : ℕ → ℤ) : Type 0 where
  pub was : ℕ → ℤ
  pub point : Holds o was
  pub others : (w : ℕ) → w ≢ v → x w ≡ was w
  pub near : Within d.low d.high (x v -ℤ term_value was t)

-- each variable has a number of its range
pub record AreInside (rs : List Interval) (x : ℕ → ℤ) : Type 0 where
  pub inside : (v : ℕ) → v < length rs → Within (range_at rs v).low (range_at rs v).high (x v)
