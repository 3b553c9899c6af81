-- Which points the lines of a head allow.
use Rattle.std.specs.Prelude.{ℕ, ◌+◌, Bool, true, false, ℤ, ◌+ℤ◌, ◌-ℤ◌, List, [], ◌∷◌, Option, Some, None}
use Rattle.wm_numbers.specs.Within.{Within}
use Rattle.wm_domain.specs.Points.{Point}
use Rattle.wm_domain.specs.States.{InShape, IsBare}
use Rattle.wm_domain.specs.declared.form.Form.{Form}
use Rattle.wm_domain.specs.declared.shape.Shape.{Shape}
use Rattle.wm_cert_text.specs.declared.told.Cells.{Cells}
use Rattle.wm_cert_text.specs.declared.told.Cells.TheVariants.{Empty, Range}
use Rattle.wm_cert_text.specs.declared.told.Ends.{Ends}
use Rattle.wm_cert_text.specs.declared.told.Kind.{Kind}
use Rattle.wm_cert_text.specs.declared.told.Kind.TheVariants.{Minus, Plus}
use Rattle.wm_cert_text.specs.declared.told.Pair.{Pair}
use Rattle.wm_cert_text.specs.declared.told.State.{State}

abbrev pub Between : Ends → ℤ → Type 0
Between ends z = Within ends.low ends.high z

-- the variables from a number on lie between their ends
abbrev pub BoundsMet : ℕ → List Ends → Point → Type 0
BoundsMet v [] p = Unit {0}
BoundsMet v (ends ∷ rest) p = Between ends (p.values v) × BoundsMet (v + 1) rest p

-- whether the second variable counts with the other sign
abbrev pub turns : Kind → Bool
turns Minus = true
turns Plus = false

abbrev pub pair_value : Kind → ℤ → ℤ → ℤ
pair_value Minus a b = a -ℤ b
pair_value Plus a b = a +ℤ b

abbrev pub PairMet : Pair → Point → Type 0
PairMet pair p = Between pair.ends (pair_value pair.kind (p.values pair.first) (p.values pair.second))

abbrev pub PairsMet : List Pair → Point → Type 0
PairsMet [] p = Unit {0}
PairsMet (pair ∷ rest) p = PairMet pair p × PairsMet rest p

-- the cell is unset, or one that is allowed
abbrev pub CellMet : Cells → Option ℤ → Type 0
CellMet held None = Unit {0}
CellMet Empty (Some z) = ⊥
CellMet (Range ends) (Some z) = Between ends z

abbrev pub ArraysMet : ℕ → List Cells → Point → Type 0
ArraysMet a [] p = Unit {0}
ArraysMet a (held ∷ rest) p = CellMet held (p.cells a) × ArraysMet (a + 1) rest p

-- ---- forms of one and of two variables

abbrev pub one_form : (v : ℕ) → (negative : Bool) → ℤ → Form
one_form v negative z = record { terms = record { variable = v; negative = negative } ∷ []; constant = z }

abbrev pub two_form : (v : ℕ) → (negative : Bool) → (w : ℕ) → (other : Bool) → ℤ → Form
two_form v negative w other z =
    record { terms = record { variable = v; negative = negative } ∷ record { variable = w; negative = other } ∷ []; constant = z }

-- ---- the whole head

-- a point of the shape that the lines allow
pub record Meets (shape : Shape) (state : State) (p : Point) : Type 0 where
  pub inside : InShape shape p
  pub bounds : BoundsMet 0 state.bounds p
  pub pairs : PairsMet state.pairs p
  pub arrays : ArraysMet 0 state.arrays p

-- the points are those that the lines allow, and none where the head is told to be empty
abbrev pub IsStateOf : Shape → Option State → (Point → Type 0) → Type 0
IsStateOf shape None Has = IsBare Has
IsStateOf shape (Some state) Has = ((p : Point) → Has p → Meets shape state p) × ((p : Point) → Meets shape state p → Has p)
