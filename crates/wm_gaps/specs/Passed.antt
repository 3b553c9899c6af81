-- Bounds of a state that another one passes, told by points.
use Rattle.std.specs.Prelude.{ℕ, ℤ, pos, ◌<ℤ◌, int_lt, if◌then◌else◌, Bool, true, false, [], ◌∷◌, Option, Some, None, MatchOption}
use Rattle.wm_interval.specs.declared.Interval.{Interval}
use Rattle.wm_arrays.specs.declared.summary.Summary.{Summary}
use Rattle.wm_arrays.specs.declared.summary.Summary.TheVariants.{Empty, Range}
use Rattle.wm_numbers.specs.Extremes.{LeastOf, GreatestOf}
use Rattle.wm_cert.specs.declared.gap.End2.{End2}
use Rattle.wm_cert.specs.declared.gap.End2.TheVariants.{Low, High}
use Rattle.wm_cert.specs.declared.gap.Line.{Line}
use Rattle.wm_cert.specs.declared.gap.Line.TheVariants.{Bound, Minus, Plus, Array}
use Rattle.wm_domain.specs.declared.form.Form.{Form}
use Rattle.wm_domain.specs.Points.{Point}
use Rattle.wm_domain.specs.Changes.{IsValueOf, IsFormValue, IsCellOf}
use Rattle.wm_gaps.specs.declared.passed.Passed.{Passed}

-- the sum of two variables, or the first less the second
abbrev pub pair_form : (first second : ℕ) → (negative : Bool) → Form
pair_form first second negative =
    record {
      terms = record { variable = first; negative = false } ∷ record { variable = second; negative = negative } ∷ [];
      constant = pos 0;
    }

-- z is a number that the line bounds, at a point
abbrev pub IsOn : (Point → Type 0) → Line → ℤ → Type 0
IsOn Has (Bound v) z = IsValueOf Has v z
IsOn Has (Minus i j) z = IsFormValue Has (pair_form i j true) z
IsOn Has (Plus i j) z = IsFormValue Has (pair_form i j false) z
IsOn Has (Array a) z = IsCellOf Has a z

-- the least or the greatest such number
abbrev pub IsEnd : End2 → (ℤ → Type 0) → ℤ → Type 0
IsEnd Low Is z = LeastOf Is z
IsEnd High Is z = GreatestOf Is z

abbrev pub IsBeyond : End2 → (have allowed : ℤ) → Type 0
IsBeyond Low have allowed = have <ℤ allowed
IsBeyond High have allowed = allowed <ℤ have

-- the first state has a number on the line beyond those of the second, which may have none
pub record IsPassed (Has Allowed : Point → Type 0) (it : Passed) : Type 0 where
  pub have : IsEnd it.end (IsOn Has it.line) it.have
  pub allowed : MatchOption it.allowed ((z : ℤ) → IsOn Allowed it.line z → ⊥) (λ z. IsEnd it.end (IsOn Allowed it.line) z × IsBeyond it.end it.have z)

-- the end at which the numbers on a line pass those that are allowed there, the low one first
abbrev pub passed_within : Line → (have allowed : Interval) → Option Passed
passed_within line have allowed =
    if int_lt have.low allowed.low
    then Some (record { line = line; end = Low; have = have.low; allowed = Some allowed.low })
    else if int_lt allowed.high have.high
    then Some (record { line = line; end = High; have = have.high; allowed = Some allowed.high })
    else None

abbrev pub passed_on : Line → (have : Interval) → Option Interval → Option Passed
passed_on line have None = Some (record { line = line; end = Low; have = have.low; allowed = None })
passed_on line have (Some allowed) = passed_within line have allowed

-- the interval of a summary, where it has one
abbrev pub cells_in : Option Summary → Option Interval
cells_in None = None
cells_in (Some Empty) = None
cells_in (Some (Range range)) = Some range
