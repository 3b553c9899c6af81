-- The first bound, in the order of a head's text, that a state passes.
use Rattle.std.specs.Prelude.{ℕ, ℤ, ◌≡◌, ◌<◌, ◌≤ℤ◌, ◌⊎◌, Bool, IsTrue, length, Option, Some, None}
use Rattle.wm_numbers.specs.Extremes.{LeastOf}
use Rattle.wm_cert.specs.declared.gap.End2.TheVariants.{High}
use Rattle.wm_cert.specs.declared.gap.Line.{Line}
use Rattle.wm_cert.specs.declared.gap.Line.TheVariants.{Bound, Minus, Plus, Array}
use Rattle.wm_domain.specs.Points.{Point}
use Rattle.wm_domain.specs.States.{count_of, array_count}
use Rattle.wm_domain.specs.declared.shape.Shape.{Shape}
use Rattle.wm_gaps.specs.Passed.{IsOn, IsPassed}
use Rattle.wm_gaps.specs.declared.passed.Passed.{Passed}

-- ---- the lines of a head and their order

abbrev pub IsVariableLine : (count : ℕ) → Line → Type 0
IsVariableLine count (Bound v) = v < count
IsVariableLine count (Minus i j) = ⊥
IsVariableLine count (Plus i j) = ⊥
IsVariableLine count (Array a) = ⊥

-- the one line
abbrev pub IsThe : Line → Line → Type 0
IsThe line l = l ≡ line

-- the difference and the sum of two variables
abbrev pub IsOfPair : (first second : ℕ) → Line → Type 0
IsOfPair first second (Bound v) = ⊥
IsOfPair first second (Minus i j) = (i ≡ first) × (j ≡ second)
IsOfPair first second (Plus i j) = (i ≡ first) × (j ≡ second)
IsOfPair first second (Array a) = ⊥

-- the pairs of a variable with those behind it
abbrev pub IsRowLine : (first count : ℕ) → Line → Type 0
IsRowLine first count (Bound v) = ⊥
IsRowLine first count (Minus i j) = (i ≡ first) × (i < j) × (j < count)
IsRowLine first count (Plus i j) = (i ≡ first) × (i < j) × (j < count)
IsRowLine first count (Array a) = ⊥

-- the pairs of the first variables with those behind them
abbrev pub IsRowsLine : (rows count : ℕ) → Line → Type 0
IsRowsLine rows count (Bound v) = ⊥
IsRowsLine rows count (Minus i j) = (i < rows) × (i < j) × (j < count)
IsRowsLine rows count (Plus i j) = (i < rows) × (i < j) × (j < count)
IsRowsLine rows count (Array a) = ⊥

abbrev pub IsPairLine : (count : ℕ) → Line → Type 0
IsPairLine count (Bound v) = ⊥
IsPairLine count (Minus i j) = (i < j) × (j < count)
IsPairLine count (Plus i j) = (i < j) × (j < count)
IsPairLine count (Array a) = ⊥

-- pairs, where states keep bounds on them
abbrev pub IsGroupLine : (pairs : Bool) → (count : ℕ) → Line → Type 0
IsGroupLine pairs count l = IsTrue pairs × IsPairLine count l

abbrev pub IsArrayLine : (count : ℕ) → Line → Type 0
IsArrayLine count (Bound v) = ⊥
IsArrayLine count (Minus i j) = ⊥
IsArrayLine count (Plus i j) = ⊥
IsArrayLine count (Array a) = a < count

-- the ranges of all variables, the differences and sums of two variables of the group where states keep bounds on them, and
-- the set cells of all arrays
abbrev pub IsLine : (pairs : Bool) → Shape → Line → Type 0
IsLine pairs shape l =
    IsVariableLine (count_of shape) l ⊎ IsGroupLine pairs (length shape.group) l ⊎ IsArrayLine (array_count shape) l

abbrev pub IsPairBefore : (i j k l : ℕ) → Type 0
IsPairBefore i j k l = (i < k) ⊎ ((i ≡ k) × (j < l))

-- The first line stands before the second: variables, then pairs, each with its difference before its sum, then arrays.
abbrev pub IsBefore : Line → Line → Type 0
IsBefore (Bound v) (Bound w) = v < w
IsBefore (Bound v) (Minus k l) = Unit {0}
IsBefore (Bound v) (Plus k l) = Unit {0}
IsBefore (Bound v) (Array b) = Unit {0}
IsBefore (Minus i j) (Bound w) = ⊥
IsBefore (Minus i j) (Minus k l) = IsPairBefore i j k l
IsBefore (Minus i j) (Plus k l) = IsPairBefore i j k l ⊎ ((i ≡ k) × (j ≡ l))
IsBefore (Minus i j) (Array b) = Unit {0}
IsBefore (Plus i j) (Bound w) = ⊥
IsBefore (Plus i j) (Minus k l) = IsPairBefore i j k l
IsBefore (Plus i j) (Plus k l) = IsPairBefore i j k l
IsBefore (Plus i j) (Array b) = Unit {0}
IsBefore (Array a) (Bound w) = ⊥
IsBefore (Array a) (Minus k l) = ⊥
IsBefore (Array a) (Plus k l) = ⊥
IsBefore (Array a) (Array b) = a < b

-- ---- lines that are held

-- the number lies between two of which the fact holds
pub record IsBetween (Is : ℤ → Type 0) (z : ℤ) : Type 0 where
  pub low : ℤ
  pub high : ℤ
  pub low_is : Is low
  pub high_is : Is high
  pub above : low ≤ℤ z
  pub below : z ≤ℤ high

-- each number of the first state on the line lies between numbers of the second
abbrev pub IsHeld : (Has Allowed : Point → Type 0) → Line → Type 0
IsHeld Has Allowed line = (z : ℤ) → IsOn Has line z → IsBetween (IsOn Allowed line) z

-- all lines of a kind are held
abbrev pub AreHeld : (IsOne : Line → Type 0) → (Has Allowed : Point → Type 0) → Type 0
AreHeld IsOne Has Allowed = (l : Line) → IsOne l → IsHeld Has Allowed l

-- The first end that is passed on the first line of a kind on which one is, low before high: each line before it is held,
-- and where the high end is told, no number lies below the least that is allowed on its line.
pub record IsFirst (IsOne : Line → Type 0) (Has Allowed : Point → Type 0) (it : Passed) : Type 0 where
  pub one : IsOne it.line
  pub passed : IsPassed Has Allowed it
  pub before : (l : Line) → IsOne l → IsBefore l it.line → IsHeld Has Allowed l
  pub low : it.end ≡ High → (least : ℤ) → LeastOf (IsOn Allowed it.line) least → (z : ℤ) → IsOn Has it.line z → least ≤ℤ z

-- none where all lines of the kind are held, else the first end that is passed
abbrev pub IsAnswer : (IsOne : Line → Type 0) → (Has Allowed : Point → Type 0) → Option Passed → Type 0
IsAnswer IsOne Has Allowed None = AreHeld IsOne Has Allowed
IsAnswer IsOne Has Allowed (Some it) = IsFirst IsOne Has Allowed it

-- each point of the first state is one of the second
abbrev pub IsWithin : (Has Allowed : Point → Type 0) → Type 0
IsWithin Has Allowed = (p : Point) → Has p → Allowed p
