-- The points that each call leaves, from those that were there.
use Rattle.std.specs.Prelude.{ℕ, ◌≡◌, ◌≢◌, ◌<◌, ◌⊎◌, ℤ, pos, ◌-ℤ◌, ◌≤ℤ◌, List, length, slice_index_or, Option, Some, None}
use Rattle.wm_interval.specs.declared.Interval.{Interval}
use Rattle.wm_interval.specs.Holds.{Holds}
use Rattle.wm_arrays.specs.declared.summary.Summary.{Summary}
use Rattle.wm_domain.specs.Points.{Point, SameBut, SameButCell, AllowsCell}
use Rattle.wm_domain.specs.declared.form.Form.{Form}
use Rattle.wm_domain.specs.declared.form.Relation.{Relation}
use Rattle.wm_domain.specs.declared.form.Relation.TheVariants.{AtMost, Equal, NotEqual}
use Rattle.wm_domain.specs.declared.shape.Shape.{Shape}
use Rattle.wm_domain.specs.Forms.{form_value}

-- no cell is set
abbrev pub IsUnset : Shape → Point → Type 0
IsUnset shape p = (a : ℕ) → a < length shape.arrays → p.cells a ≡ None

-- ---- picks

-- the number of the picked variable; any number where none is picked
abbrev pub IsPicked : Option ℕ → Point → ℤ → Type 0
IsPicked None was z = Unit {0}
IsPicked (Some v) was z = z ≡ was.values v

-- the cell of the picked array; unset where none is picked
abbrev pub IsPickedCell : Option ℕ → Point → Option ℤ → Type 0
IsPickedCell None was cell = cell ≡ None
IsPickedCell (Some a) was cell = cell ≡ was.cells a

pub record Projected (Has : Point → Type 0) (picks arrays : List (Option ℕ)) (p : Point) : Type 0 where
  pub was : Point
  pub point : Has was
  pub numbers : (v : ℕ) → v < length picks → IsPicked (slice_index_or picks v None) was (p.values v)
  pub cells : (a : ℕ) → a < length arrays → IsPickedCell (slice_index_or arrays a None) was (p.cells a)

-- the picks name what there is, each once
pub record ArePicks (count : ℕ) (picks : List (Option ℕ)) : Type 0 where
  pub named : (k v : ℕ) → slice_index_or picks k None ≡ Some v → v < count
  pub apart : (k l v : ℕ) → slice_index_or picks k None ≡ Some v → slice_index_or picks l None ≡ Some v → k ≡ l

-- ---- tests

-- 0 is at an end of the form's values, or past it
pub record IsSided (Has : Point → Type 0) (f : Form) : Type 0 where
  pub side : ((q : Point) → Has q → pos 0 ≤ℤ form_value q.values f) ⊎ ((q : Point) → Has q → form_value q.values f ≤ℤ pos 0)

-- the form's value is not 0, where 0 is the least or the greatest value
abbrev pub Meets : (Point → Type 0) → Form → Relation → ℤ → Type 0
Meets Has f AtMost z = z ≤ℤ pos 0
Meets Has f Equal z = z ≡ pos 0
Meets Has f NotEqual z = IsSided Has f → z ≢ pos 0

pub record Kept (Has : Point → Type 0) (f : Form) (r : Relation) (p : Point) : Type 0 where
  pub point : Has p
  pub meets : Meets Has f r (form_value p.values f)

-- ---- variables

-- variable v has any number of r
pub record Freed (Has : Point → Type 0) (v : ℕ) (r : Interval) (p : Point) : Type 0 where
  pub was : Point
  pub point : Has was
  pub others : SameBut v was p
  pub value : Holds r (p.values v)

-- variable v has the value of the form
pub record Assigned (Has : Point → Type 0) (v : ℕ) (f : Form) (p : Point) : Type 0 where
  pub was : Point
  pub point : Has was
  pub others : SameBut v was p
  pub value : p.values v ≡ form_value was.values f

-- variable v has a number of r that differs from w by a number of d
pub record Near (Has : Point → Type 0) (v w : ℕ) (d r : Interval) (p : Point) : Type 0 where
  pub was : Point
  pub point : Has was
  pub others : SameBut v was p
  pub value : Holds r (p.values v)
  pub near : Holds d (p.values v -ℤ was.values w)

-- ---- arrays

-- array a has any cell that the summary allows
pub record ArraySet (Has : Point → Type 0) (a : ℕ) (s : Summary) (p : Point) : Type 0 where
  pub was : Point
  pub point : Has was
  pub others : SameButCell a was p
  pub cell : AllowsCell s (p.cells a)

-- a number of r that array a can hold was written to one of its n cells: to this one or, where there are more, to another
pub record Written (Has : Point → Type 0) (full : Interval) (a : ℕ) (r : Interval) (n : ℕ) (p : Point) : Type 0 where
  pub was : Point
  pub point : Has was
  pub others : SameButCell a was p
  pub number : ℤ
  pub in_range : Holds r number
  pub fits : Holds full number
  pub cell : (p.cells a ≡ Some number) ⊎ ((n ≢ 1) × (p.cells a ≡ was.cells a))

-- ---- two states, and what is told of one

abbrev pub InEither : (Point → Type 0) → (Point → Type 0) → Point → Type 0
InEither Has Others p = Has p ⊎ Others p

-- z is the value of variable v at a point
pub record IsValueOf (Has : Point → Type 0) (v : ℕ) (z : ℤ) : Type 0 where
  pub x : Point
  pub is : Has x
  pub gives : x.values v ≡ z

-- z is the value of the form at a point
pub record IsFormValue (Has : Point → Type 0) (f : Form) (z : ℤ) : Type 0 where
  pub x : Point
  pub is : Has x
  pub gives : form_value x.values f ≡ z

-- z is in a set cell of array a at a point
pub record IsCellOf (Has : Point → Type 0) (a : ℕ) (z : ℤ) : Type 0 where
  pub x : Point
  pub is : Has x
  pub gives : x.cells a ≡ Some z
