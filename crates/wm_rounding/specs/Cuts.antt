-- What is left of the points of a state, step by step.
use Rattle.std.specs.Prelude.{ℕ, ◌<◌, ◌≤◌, ◌≡◌, List, ℤ, None}
use Rattle.wm_arrays.specs.declared.summary.Summary.{Summary}
use Rattle.wm_domain.specs.Points.{Point, SameButCell, AllowsCell}
use Rattle.wm_domain.specs.States.{InShape}
use Rattle.wm_domain.specs.declared.shape.Shape.{Shape}
use Rattle.wm_rounding.specs.Rounding.{MeetsCell, MeetsCells}

-- the new points are those of the old ones at which the fact holds
pub record Cut (Old New Fact : Point → Type 0) : Type 0 where
  pub fewer : (p : Point) → New p → Old p
  pub meets : (p : Point) → New p → Fact p
  pub kept : (p : Point) → Old p → Fact p → New p

-- the summary allows exactly the cells of the array that meet the bounds on the grid
pub record AllowsCells (numbers : List ℤ) (Has : Point → Type 0) (a : ℕ) (s : Summary) : Type 0 where
  pub meets : (p : Point) → AllowsCell s (p.cells a) → MeetsCell numbers Has a p
  pub allows : (p : Point) → MeetsCell numbers Has a p → AllowsCell s (p.cells a)

-- a point from which p differs in the cell of the array alone
pub record Beside (Old : Point → Type 0) (a : ℕ) (p : Point) : Type 0 where
  pub was : Point
  pub point : Old was
  pub others : SameButCell a was p

-- the new points are the old ones with other cells of the array, which meet the bounds on the grid
pub record SetsCell (numbers : List ℤ) (Has Old New : Point → Type 0) (shape : Shape) (a : ℕ) : Type 0 where
  pub made : (p : Point) → New p → Beside Old a p × MeetsCell numbers Has a p
  pub kept : (p : Point) → InShape shape p → Beside Old a p → MeetsCell numbers Has a p → New p

-- the points are those at which the cells of the first arrays meet the bounds on the grid, and those of the others are unset
pub record HasCells (numbers : List ℤ) (Has New : Point → Type 0) (shape : Shape) (first count : ℕ) : Type 0 where
  pub meets : (p : Point) → New p → MeetsCells numbers Has first p
  pub unset : (p : Point) → New p → (b : ℕ) → first ≤ b → b < count → p.cells b ≡ None
  pub kept : (p : Point) → InShape shape p → MeetsCells numbers Has first p → ((b : ℕ) → first ≤ b → b < count → p.cells b ≡ None) → New p
