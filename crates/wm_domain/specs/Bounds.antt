-- The bounds that states keep, and states that are cut by one more.
use Rattle.std.specs.Prelude.{ℕ, ◌≡◌, ◌≢◌, ◌<◌, ◌↔◌, Bool, IsTrue, ℤ, ◌+ℤ◌, ◌≤ℤ◌, length}
use Rattle.wm_arrays.specs.declared.summary.Summary.{Summary}
use Rattle.wm_domain.specs.Points.{Point, AllowsCell}
use Rattle.wm_domain.specs.declared.form.Term.{Term}
use Rattle.wm_domain.specs.declared.shape.Shape.{Shape}
use Rattle.wm_domain.specs.Forms.{term_value}
use Rattle.wm_domain.specs.States.{count_of}

pub data Bound : Type 0 where
  -- there is no point
  NoPoint : Bound
  -- a variable or its negative is at most a number
  TermBelow : (t : Term) → (c : ℤ) → Bound
  -- so is the sum of two such sides
  SumBelow : (t : Term) → (u : Term) → (c : ℤ) → Bound
  -- a cell of the array is one that the summary allows
  CellIn : (a : ℕ) → (s : Summary) → Bound

-- the point meets the bound
abbrev pub Meets : Bound → Point → Type 0
Meets NoPoint p = ⊥
Meets (TermBelow t c) p = term_value p.values t ≤ℤ c
Meets (SumBelow t u c) p = (term_value p.values t +ℤ term_value p.values u) ≤ℤ c
Meets (CellIn a s) p = AllowsCell s (p.cells a)

-- states of the shape keep such bounds; those on two variables only where they keep bounds on pairs, in the group
abbrev pub IsBound : Bool → Shape → Bound → Type 0
IsBound pairs shape NoPoint = Unit {0}
IsBound pairs shape (TermBelow t c) = t.variable < count_of shape
IsBound pairs shape (SumBelow t u c) = IsTrue pairs × (t.variable < length shape.group) × (u.variable < length shape.group) × (t.variable ≢ u.variable)
IsBound pairs shape (CellIn a s) = a < length shape.arrays

-- a state of the same shape whose points are those that meet one more bound
pub record IsCutBy {S : Type 0} (Holds : S → Point → Type 0) (shape_of : S → Shape) (s : S) (b : Bound) : Type 0 where
  pub state : S
  pub same : shape_of state ≡ shape_of s
  pub points : (p : Point) → Holds state p ↔ (Holds s p × Meets b p)

-- the point meets each bound that all these points meet
abbrev pub MeetsAll : Bool → Shape → (Point → Type 0) → Point → Type 0
MeetsAll pairs shape Has p = (b : Bound) → IsBound pairs shape b → ((q : Point) → Has q → Meets b q) → Meets b p
