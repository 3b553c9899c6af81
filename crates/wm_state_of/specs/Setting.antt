-- Arrays that are set one after another.
use Rattle.std.specs.Prelude.{ℕ, ◌≡◌, ◌<◌, ◌≤◌, List, slice_index_or}
use Rattle.wm_domain.specs.Points.{Point, SameButCell}
use Rattle.wm_cert_text.specs.declared.told.Cells.{Cells}
use Rattle.wm_cert_text.specs.declared.told.Cells.TheVariants.{Empty}
use Rattle.wm_state_of.specs.Meeting.{CellMet}

-- array a has any cell that its line allows
pub record CellSet (Has : Point → Type 0) (a : ℕ) (held : Cells) (p : Point) : Type 0 where
  pub was : Point
  pub point : Has was
  pub others : SameButCell a was p
  pub met : CellMet held (p.cells a)

-- the first n arrays have any cells that their lines allow, and the others those that they had
pub record ArraysSet (Has : Point → Type 0) (n : ℕ) (arrays : List Cells) (p : Point) : Type 0 where
  pub was : Point
  pub point : Has was
  pub numbers : (v : ℕ) → p.values v ≡ was.values v
  pub rest : (a : ℕ) → n ≤ a → p.cells a ≡ was.cells a
  pub met : (a : ℕ) → a < n → CellMet (slice_index_or arrays a Empty) (p.cells a)
