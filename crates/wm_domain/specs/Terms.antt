-- Terms at the points of a state.
use Rattle.std.specs.Prelude.{ℕ, ◌≡◌, ℤ, ◌-ℤ◌, ◌≤ℤ◌, List}
use Rattle.wm_interval.specs.declared.Interval.{Interval}
use Rattle.wm_interval.specs.Holds.{Holds}
use Rattle.wm_domain.specs.declared.form.Term.{Term}
use Rattle.wm_domain.specs.Points.{Point, SameBut}
use Rattle.wm_domain.specs.Forms.{term_value, terms_value}

-- z is the value of the term at a point
pub record IsTermValue (Has : Point → Type 0) (t : Term) (z : ℤ) : Type 0 where
  pub x : Point
  pub is : Has x
  pub gives : term_value x.values t ≡ z

-- a point at which the term lies between two ends
pub record Ranged (Has : Point → Type 0) (t : Term) (low high : ℤ) (p : Point) : Type 0 where
  pub point : Has p
  pub above : low ≤ℤ term_value p.values t
  pub below : term_value p.values t ≤ℤ high

-- a point at which the sum of the terms lies between two ends
pub record SumIn (Has : Point → Type 0) (ts : List Term) (low high : ℤ) (p : Point) : Type 0 where
  pub point : Has p
  pub above : low ≤ℤ terms_value p.values ts
  pub below : terms_value p.values ts ≤ℤ high

-- variable v has a number of r that differs from the term by a number of d
pub record NearTerm (Has : Point → Type 0) (v : ℕ) (w : Term) (d r : Interval) (p : Point) : Type 0 where
  pub was : Point
  pub point : Has was
  pub others : SameBut v was p
  pub value : Holds r (p.values v)
  pub near : Holds d (p.values v -ℤ term_value was.values w)
