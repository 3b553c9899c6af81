-- States as sets of points, and the least state of some points.
use Rattle.std.specs.Prelude.{ℕ, ◌≡◌, ◌≢◌, ◌<◌, ◌≤◌, ◌^◌, Bool, IsTrue, ℤ, ◌+ℤ◌, ◌≤ℤ◌, List, ◌++◌, length, All, Option, Some, None, unsigned_abs}
use Rattle.wm_interval.specs.declared.Interval.{Interval}
use Rattle.wm_domain.specs.Points.{Point, IsInside, IsNarrow}
use Rattle.wm_domain.specs.declared.form.Term.{Term}
use Rattle.wm_domain.specs.declared.shape.Shape.{Shape}
use Rattle.wm_domain.specs.Forms.{term_value}

-- the full ranges of all variables
abbrev pub variables_of : Shape → List Interval
variables_of shape = shape.group ++ shape.singles

abbrev pub count_of : Shape → ℕ
count_of shape = length (variables_of shape)

abbrev pub array_count : Shape → ℕ
array_count shape = length shape.arrays

-- a group of at most 32 variables, and full ranges of 32 bits
pub record IsShape (shape : Shape) : Type 0 where
  pub few : length shape.group ≤ 32
  pub group : All IsNarrow shape.group
  pub singles : All IsNarrow shape.singles
  pub arrays : All IsNarrow shape.arrays

-- the point lies in the full ranges
abbrev pub InShape : Shape → Point → Type 0
InShape shape p = IsInside (variables_of shape) shape.arrays p

-- both ends are below 2^50 in size
pub record IsSized (r : Interval) : Type 0 where
  pub low_size : unsigned_abs r.low < 2 ^ 50
  pub high_size : unsigned_abs r.high < 2 ^ 50

-- each of the points in the full ranges is one of the state
pub record Keeps {S : Type 0} (Holds : S → Point → Type 0) (shape_of : S → Shape) (s : S) (P : Point → Type 0) : Type 0 where
  pub kept : (p : Point) → InShape (shape_of s) p → P p → Holds s p

-- the state is the least of its shape that holds these points: each other that holds them holds all points of it
pub record IsLeast {S : Type 0} (Holds : S → Point → Type 0) (shape_of : S → Shape) (s : S) (P : Point → Type 0) : Type 0 where
  pub least : (t : S) → shape_of t ≡ shape_of s → Keeps Holds shape_of t P → (p : Point) → Holds s p → Holds t p

-- no point
abbrev pub IsBare : (Point → Type 0) → Type 0
IsBare Has = (p : Point) → Has p → ⊥

-- ---- what a state with a point is: all that its ranges and its forms allow

-- some point reaches at least as far
pub record IsReached (Has : Point → Type 0) (f : (ℕ → ℤ) → ℤ) (p : Point) : Type 0 where
  pub x : Point
  pub is : Has x
  pub reaches : f p.values ≤ℤ f x.values

-- the number lies between two of set cells
pub record IsCellBetween (Has : Point → Type 0) (a : ℕ) (z : ℤ) : Type 0 where
  pub x : Point
  pub y : Point
  pub x_is : Has x
  pub y_is : Has y
  pub low : ℤ
  pub high : ℤ
  pub x_cell : x.cells a ≡ Some low
  pub y_cell : y.cells a ≡ Some high
  pub above : low ≤ℤ z
  pub below : z ≤ℤ high

abbrev pub IsCellTold : (Point → Type 0) → ℕ → Option ℤ → Type 0
IsCellTold Has a None = Unit {0}
IsCellTold Has a (Some z) = IsCellBetween Has a z

-- there is a point; each variable and its negative, each sum of two sides of the group where there are bounds on pairs,
-- and each set cell are between those of points
pub record IsTold (pairs : Bool) (shape : Shape) (Has : Point → Type 0) (p : Point) : Type 0 where
  pub some : Point
  pub some_is : Has some
  pub each : (t : Term) → t.variable < count_of shape → IsReached Has (λ x. term_value x t) p
  pub pair : IsTrue pairs → (t u : Term) → t.variable < length shape.group → u.variable < length shape.group → t.variable ≢ u.variable → IsReached Has (λ x. term_value x t +ℤ term_value x u) p
  pub cells : (a : ℕ) → a < length shape.arrays → IsCellTold Has a (p.cells a)
