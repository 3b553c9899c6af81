-- What follows a state where the cells of one array change.
use Rattle.std.specs.Prelude.{ℕ, ◌≡◌, ◌≢◌, ◌⊎◌, ◌↔◌, ℤ, List, [], ◌∷◌, Option, Some, None}
use Rattle.wm_interval.specs.declared.Interval.{Interval}
use Rattle.wm_interval.specs.Holds.{Holds}
use Rattle.wm_arrays.specs.declared.summary.Summary.{Summary}
use Rattle.wm_domain.specs.declared.form.Form.{Form}
use Rattle.wm_domain.specs.declared.shape.Shape.{Shape}
use Rattle.wm_domain.specs.Points.{Point, AllowsCell}
use Rattle.wm_arrays.specs.declared.summary.Summary.TheVariants.{Empty, Range}
use Rattle.wm_domain.specs.States.{IsSized, IsCellBetween}
use Rattle.wm_carry.specs.Following.{Carried}
use Rattle.wm_assign.specs.Giving.{InRange}

module _ (source target : Shape) (Has : Point → Type 0) where
  -- the array's cell is unset, or one that the summary allows
  pub record ArraySetTo (a : ℕ) (s : Summary) (p : Point) : Type 0 where
    pub was : Point
    pub carried : Carried source target Has [] (a ∷ []) was p
    pub cell : AllowsCell s (p.cells a)

  -- a number of the value's range that the array can hold is in its cell or, where it has more, in another
  pub record WrittenTo (a : ℕ) (full : Interval) (value : Form) (n : ℕ) (p : Point) : Type 0 where
    pub was : Point
    pub carried : Carried source target Has [] (a ∷ []) was p
    pub number : ℤ
    pub in_range : InRange Has value number
    pub fits : Holds full number
    pub cell : (p.cells a ≡ Some number) ⊎ ((n ≢ 1) × (p.cells a ≡ was.cells a))

abbrev pub cells_range : Summary → Option Interval
cells_range Empty = None
cells_range (Range r) = Some r

-- the interval holds exactly the numbers between two of set cells; none where there are none
abbrev pub IsCells : (Point → Type 0) → ℕ → Option Interval → Type 0
IsCells Has a None = (z : ℤ) → IsCellBetween Has a z → ⊥
IsCells Has a (Some r) = IsSized r × ((z : ℤ) → IsCellBetween Has a z ↔ Holds r z)
