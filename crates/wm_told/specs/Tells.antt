-- What the points of a state tell: the least and the greatest number of each variable, of each pair and of each array.
use Rattle.std.specs.Prelude.{ℕ, ◌≡◌, ◌+◌, ◌<◌, Bool, true, false, ℤ, pos, List, [], ◌∷◌, ◌++◌, length, map, All, slice_index_or}
use Rattle.wm_numbers.specs.Extremes.{LeastOf, GreatestOf}
use Rattle.wm_interval.specs.declared.Interval.{Interval}
use Rattle.wm_arrays.specs.declared.summary.Summary.{Summary}
use Rattle.wm_arrays.specs.declared.summary.Summary.TheVariants as summary
use Rattle.wm_domain.specs.Points.{Point}
use Rattle.wm_domain.specs.Changes.{IsValueOf, IsFormValue, IsCellOf}
use Rattle.wm_domain.specs.States.{count_of, array_count}
use Rattle.wm_domain.specs.declared.form.Form.{Form}
use Rattle.wm_domain.specs.declared.shape.Shape.{Shape}
use Rattle.wm_cert_text.specs.declared.told.Cells.{Cells}
use Rattle.wm_cert_text.specs.declared.told.Cells.TheVariants.{Empty, Range}
use Rattle.wm_cert_text.specs.declared.told.Ends.{Ends}
use Rattle.wm_cert_text.specs.declared.told.Kind.{Kind}
use Rattle.wm_cert_text.specs.declared.told.Kind.TheVariants.{Minus, Plus}
use Rattle.wm_cert_text.specs.declared.told.Pair.{Pair}
use Rattle.wm_cert_text.specs.declared.told.State.{State}

-- the ends are the least and the greatest number that the fact holds of
pub record AreEnds (Is : ℤ → Type 0) (ends : Ends) : Type 0 where
  pub low_is : LeastOf Is ends.low
  pub high_is : GreatestOf Is ends.high

-- the ends of the set cells, and none where no cell is set
abbrev pub AreCells : (ℤ → Type 0) → Cells → Type 0
AreCells Is Empty = (z : ℤ) → Is z → ⊥
AreCells Is (Range ends) = AreEnds Is ends

-- what a summary tells
abbrev pub cells_of : Summary → Cells
cells_of summary.Empty = Empty
cells_of (summary.Range range) = Range (record { low = range.low; high = range.high })

abbrev pub no_ends : Ends
no_ends = record { low = pos 0; high = pos 0 }

-- ---- a number for each variable, and cells for each array

pub record AreRanges (Has : Point → Type 0) (count : ℕ) (ranges : List Ends) : Type 0 where
  pub long : length ranges ≡ count
  pub each : (v : ℕ) → v < count → AreEnds (IsValueOf Has v) (slice_index_or ranges v no_ends)

pub record AreArrays (Has : Point → Type 0) (count : ℕ) (arrays : List Cells) : Type 0 where
  pub long : length arrays ≡ count
  pub each : (a : ℕ) → a < count → AreCells (IsCellOf Has a) (slice_index_or arrays a Empty)

-- ---- pairs

-- whether the second variable counts with the other sign
abbrev pub turns : Kind → Bool
turns Minus = true
turns Plus = false

-- the difference or the sum of two variables
abbrev pub pair_form : Kind → (first second : ℕ) → Form
pair_form kind first second =
    record {
      terms = record { variable = first; negative = false } ∷ record { variable = second; negative = turns kind } ∷ [];
      constant = pos 0;
    }

-- the pair's ends are those of its form
abbrev pub IsPairOf : (Point → Type 0) → Pair → Type 0
IsPairOf Has pair = AreEnds (IsFormValue Has (pair_form pair.kind pair.first pair.second)) pair.ends

-- which two variables a pair bounds, and how
pub record Named : Type 0 where
  pub kind : Kind
  pub first : ℕ
  pub second : ℕ

abbrev pub named : Kind → (first second : ℕ) → Named
named kind first second = record { kind = kind; first = first; second = second }

-- the pairs of a variable with those from a number on, as many as the list has
abbrev pub pairs_with : (first second : ℕ) → List Interval → List Named
pairs_with first second [] = []
pairs_with first second (range ∷ rest) =
    named Minus first second ∷ named Plus first second ∷ pairs_with first (second + 1) rest

-- all pairs of the variables from a number on, in the order of a text
abbrev pub pairs_from : (first : ℕ) → List Interval → List Named
pairs_from first [] = []
pairs_from first (range ∷ rest) = pairs_with first (first + 1) rest ++ pairs_from (first + 1) rest

abbrev pub name_of : Pair → Named
name_of pair = named pair.kind pair.first pair.second

abbrev pub names_of : List Pair → List Named
names_of pairs = map name_of pairs

-- all pairs of the group, where the domain keeps bounds on pairs; else none
abbrev pub pairs_of : (kept : Bool) → List Interval → List Named
pairs_of true group = pairs_from 0 group
pairs_of false group = []

pub record ArePairs (Has : Point → Type 0) (names : List Named) (pairs : List Pair) : Type 0 where
  pub all : names_of pairs ≡ names
  pub each : All (IsPairOf Has) pairs

-- ---- the whole state

pub record IsToldOf (kept : Bool) (shape : Shape) (Has : Point → Type 0) (told : State) : Type 0 where
  pub bounds : AreRanges Has (count_of shape) told.bounds
  pub pairs : ArePairs Has (pairs_of kept shape.group) told.pairs
  pub arrays : AreArrays Has (array_count shape) told.arrays
