-- States whose bounds are numbers of a grid, told by their points.
use Rattle.std.specs.Prelude.{ℕ, ◌<◌, Bool, true, false, IsTrue, ℤ, ◌≤ℤ◌, List, length}
use Rattle.std.specs.List.{Contains}
use Rattle.wm_arrays.specs.declared.summary.Summary.{Summary}
use Rattle.wm_domain.specs.Points.{Point, AllowsCell}
use Rattle.wm_domain.specs.Forms.{form_value}
use Rattle.wm_domain.specs.States.{count_of, array_count, InShape, IsBare}
use Rattle.wm_domain.specs.declared.form.Form.{Form}
use Rattle.wm_domain.specs.declared.shape.Shape.{Shape}
use Rattle.wm_rounding.specs.Forms.{one_form, pair_form}
use Rattle.wm_rounding.specs.Bounding.{IsOn}

module _ (numbers : List ℤ) (Has : Point → Type 0) where
  -- each number of the grid that bounds the form at all points bounds it at this one
  pub record MeetsForm (f : Form) (p : Point) : Type 0 where
    pub above : (z : ℤ) → Contains numbers z → ((q : Point) → Has q → z ≤ℤ form_value q.values f) → z ≤ℤ form_value p.values f
    pub below : (z : ℤ) → Contains numbers z → ((q : Point) → Has q → form_value q.values f ≤ℤ z) → form_value p.values f ≤ℤ z

  -- each summary on the grid that allows the cell of the array at all points allows it at this one
  pub record MeetsCell (a : ℕ) (p : Point) : Type 0 where
    pub allowed : (s : Summary) → IsOn numbers s → ((q : Point) → Has q → AllowsCell s (q.cells a)) → AllowsCell s (p.cells a)

  -- the difference and the sum of two variables
  abbrev pub MeetsPair : (v w : ℕ) → Point → Type 0
  MeetsPair v w p = MeetsForm (pair_form v w true) p × MeetsForm (pair_form v w false) p

  abbrev pub MeetsVariables : ℕ → Point → Type 0
  MeetsVariables count p = (v : ℕ) → v < count → MeetsForm (one_form v) p

  abbrev pub MeetsRow : ℕ → Point → Type 0
  MeetsRow w p = (v : ℕ) → v < w → MeetsPair v w p

  abbrev pub MeetsPairs : ℕ → Point → Type 0
  MeetsPairs count p = (w : ℕ) → w < count → MeetsRow w p

  abbrev pub MeetsCells : ℕ → Point → Type 0
  MeetsCells count p = (a : ℕ) → a < count → MeetsCell a p

  -- the point meets all bounds on the grid that hold at all points: those of each variable, those of the difference and the sum of
  -- two variables of the group where there are bounds on pairs, and those of each array
  pub record MeetsAll (pairs : Bool) (shape : Shape) (p : Point) : Type 0 where
    pub inside : InShape shape p
    pub variables : MeetsVariables (count_of shape) p
    pub related : IsTrue pairs → MeetsPairs (length shape.group) p
    pub cells : MeetsCells (array_count shape) p

-- the points are those of a state on the grid: all that meet the bounds on the grid that hold at these points, or none
pub record IsOnGrid (numbers : List ℤ) (pairs : Bool) (shape : Shape) (Has : Point → Type 0) : Type 0 where
  pub all : (IsBare Has → ⊥) → (p : Point) → MeetsAll numbers Has pairs shape p → Has p

-- the new points are all that meet the bounds on the grid that hold at the old ones; none where there are no old ones
pub record IsRounding (numbers : List ℤ) (pairs : Bool) (shape : Shape) (Old New : Point → Type 0) : Type 0 where
  pub none : IsBare Old → IsBare New
  pub meets : (p : Point) → New p → MeetsAll numbers Old pairs shape p
  pub all : (IsBare Old → ⊥) → (p : Point) → MeetsAll numbers Old pairs shape p → New p
