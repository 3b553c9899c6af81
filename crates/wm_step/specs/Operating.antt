-- What an operator leaves, by the boxes of its arguments: its result, how that differs from a first argument that is a
-- variable, and the flag.
use Rattle.std.specs.Prelude.{ℕ, ◌≡◌, ◌≢◌, ◌⊎◌, Bool, true, false, if◌then◌else◌, ℤ, pos, neg_ℤ, ◌-ℤ◌, List, [], ◌∷◌, Option, Some, None, slice_index_or, nat_lt}
use Rattle.std.specs.Int.{int_min, int_max}
use Rattle.std.specs.Ordering.{int_eq}
use Rattle.wm_numbers.specs.Clamp.{clamp16, clamp32}
use Rattle.wm_numbers.specs.Within.{Within}
use Rattle.wm_interval.specs.declared.Interval.{Interval}
use Rattle.wm_interval.specs.Holds.{Holds, IsHullOf}
use Rattle.wm_ops.specs.declared.operators.Op.{Op}
use Rattle.wm_ops.specs.declared.operators.Op.TheVariants.{Add, Sub, LAdd, LSub, LMult, LMult0, LMac, LMsu, LMac0, LMsu0}
use Rattle.wm_ops.specs.declared.operators.Width.{Width}
use Rattle.wm_ops.specs.declared.operators.Width.TheVariants.{W16, W32}
use Rattle.wm_ops.specs.Arguments.{FitsAt}
use Rattle.wm_ops.specs.Operators.{arity_of, result_width_of}
use Rattle.wm_ops.specs.Outcomes.{flags_of, fails_of}
use Rattle.wm_hull.specs.Boxes.{used_box, zero_box}
use Rattle.wm_hull.specs.Failures.{Somewhere, Nowhere}
use Rattle.wm_hull.specs.Ranges.{IsHull}
use Rattle.wm_domain.specs.declared.form.Term.{Term}
use Rattle.wm_domain.specs.declared.form.Form.{Form}
use Rattle.wm_domain.specs.declared.shape.Shape.{Shape}
use Rattle.wm_domain.specs.Points.{Point}
use Rattle.wm_domain.specs.Changes.{IsFormValue}
use Rattle.wm_carry.specs.Following.{Carried}
use Rattle.wm_assign.specs.Giving.{InRange}

-- ---- the boxes of the arguments

abbrev pub nothing : Form
nothing = record { terms = []; constant = pos 0 }

abbrev pub form_at : List Form → ℕ → Form
form_at args k = slice_index_or args k nothing

-- a number of the form's range that has the type of the argument; 0 where the operator takes none
abbrev pub InArgumentBy : (Point → Type 0) → (taken : Bool) → Op → ℕ → Form → ℤ → Type 0
InArgumentBy Has true op k f z = InRange Has f z × FitsAt op k z
InArgumentBy Has false op k f z = z ≡ pos 0

abbrev pub InArgument : (Point → Type 0) → Op → ℕ → Form → ℤ → Type 0
InArgument Has op k f z = InArgumentBy Has (nat_lt k (arity_of op)) op k f z

abbrev pub box_at : List Interval → ℕ → Interval
box_at boxes k = slice_index_or boxes k zero_box

-- each box is the range of such numbers
pub record AreBoxes (Has : Point → Type 0) (op : Op) (args : List Form) (boxes : List Interval) : Type 0 where
  pub first : IsHullOf (InArgument Has op 0 (form_at args 0)) (box_at boxes 0)
  pub second : IsHullOf (InArgument Has op 1 (form_at args 1)) (box_at boxes 1)
  pub third : IsHullOf (InArgument Has op 2 (form_at args 2)) (box_at boxes 2)

-- there are such numbers
pub record HasArguments (Has : Point → Type 0) (op : Op) (args : List Form) : Type 0 where
  pub a : ℤ
  pub b : ℤ
  pub c : ℤ
  pub first : InArgument Has op 0 (form_at args 0) a
  pub second : InArgument Has op 1 (form_at args 1) b
  pub third : InArgument Has op 2 (form_at args 2) c

-- the operator over the boxes
abbrev pub Ranges : Op → List Interval → Option Interval → Type 0
Ranges op boxes range = IsHull op (used_box op boxes 0) (used_box op boxes 1) (used_box op boxes 2) range

abbrev pub FailsSomewhere : Op → List Interval → Type 0
FailsSomewhere op boxes = Somewhere (fails_of op) (used_box op boxes 0) (used_box op boxes 1) (used_box op boxes 2)

abbrev pub FailsNowhere : Op → List Interval → Type 0
FailsNowhere op boxes = Nowhere (fails_of op) (used_box op boxes 0) (used_box op boxes 1) (used_box op boxes 2)

abbrev pub FlagsSomewhere : Op → List Interval → Type 0
FlagsSomewhere op boxes = Somewhere (flags_of op) (used_box op boxes 0) (used_box op boxes 1) (used_box op boxes 2)

-- ---- a form that is a variable and nothing more

abbrev pub variable_by : List Term → ℤ → Option ℕ
variable_by [] c = None
variable_by (t ∷ []) c = if t.negative then None else (if int_eq c (pos 0) then Some t.variable else None)
variable_by (t ∷ u ∷ rest) c = None

abbrev pub variable_of : Form → Option ℕ
variable_of f = variable_by f.terms f.constant

-- ---- what the result differs by from the first argument

-- what is added to it, or taken away: the second argument, or the product of the second and the third
pub data Change : Type 0 where
  Second : (away : Bool) → Change
  Product : Op → (away : Bool) → Change

abbrev pub change_of : Op → Option Change
change_of Add = Some (Second false)
change_of Sub = Some (Second true)
change_of LAdd = Some (Second false)
change_of LSub = Some (Second true)
change_of LMac = Some (Product LMult false)
change_of LMsu = Some (Product LMult true)
change_of LMac0 = Some (Product LMult0 false)
change_of LMsu0 = Some (Product LMult0 true)
change_of op = None

-- the numbers of the one with the other sign, where they are taken away
abbrev pub IsTurned : Bool → Interval → Interval → Type 0
IsTurned true r d = (d.low ≡ neg_ℤ r.high) × (d.high ≡ neg_ℤ r.low)
IsTurned false r d = (d.low ≡ r.low) × (d.high ≡ r.high)

pub record IsProduct (product : Op) (away : Bool) (boxes : List Interval) (d : Interval) : Type 0 where
  pub range : Interval
  pub is : Ranges product (box_at boxes 1 ∷ box_at boxes 2 ∷ zero_box ∷ []) (Some range)
  pub turned : IsTurned away range d

abbrev pub IsAdded : Change → List Interval → Interval → Type 0
IsAdded (Second away) boxes d = IsTurned away (box_at boxes 1) d
IsAdded (Product product away) boxes d = IsProduct product away boxes d

-- where the operator saturates somewhere in the boxes the interval is joined with 0
pub record IsJoined (op : Op) (change : Change) (boxes : List Interval) (d : Interval) : Type 0 where
  pub added : Interval
  pub is : IsAdded change boxes added
  pub joined :
      (FailsNowhere op boxes × (d.low ≡ added.low) × (d.high ≡ added.high))
      ⊎ (FailsSomewhere op boxes × (d.low ≡ int_min added.low (pos 0)) × (d.high ≡ int_max added.high (pos 0)))

abbrev pub IsChangeBy : Op → Option Change → List Interval → Interval → Type 0
IsChangeBy op None boxes d = ⊥
IsChangeBy op (Some change) boxes d = IsJoined op change boxes d

abbrev pub IsChange : Op → List Interval → Interval → Type 0
IsChange op boxes d = IsChangeBy op (change_of op) boxes d

-- ---- sums and differences of two variables

abbrev pub sum_form : ℕ → ℕ → Bool → Form
sum_form v w away = record { terms = record { variable = v; negative = false } ∷ record { variable = w; negative = away } ∷ []; constant = pos 0 }

-- whether the operator takes its second argument away, where it is a sum or a difference of its two arguments
abbrev pub sum_sign : Op → Option Bool
sum_sign Add = Some false
sum_sign LAdd = Some false
sum_sign Sub = Some true
sum_sign LSub = Some true
sum_sign op = None

abbrev pub clamped_to : Width → ℤ → ℤ
clamped_to W16 z = clamp16 z
clamped_to W32 z = clamp32 z

-- ---- the whole

abbrev pub IsResult : Option Interval → ℤ → Type 0
IsResult None z = ⊥
IsResult (Some range) z = Holds range z

-- z may be the result at a point of the state
pub record IsOperated (Has : Point → Type 0) (op : Op) (args : List Form) (was : Point) (z : ℤ) : Type 0 where
  pub some : HasArguments Has op args
  pub value : (boxes : List Interval) → AreBoxes Has op args boxes → (range : Option Interval) → Ranges op boxes range → IsResult range z
  pub differs : (boxes : List Interval) → AreBoxes Has op args boxes → (w : ℕ) → variable_of (form_at args 0) ≡ Some w → (d : Interval) → IsChange op boxes d → Holds d (z -ℤ was.values w)
  pub clamped :
      (v w : ℕ) (away : Bool) → sum_sign op ≡ Some away → variable_of (form_at args 0) ≡ Some v → variable_of (form_at args 1) ≡ Some w → v ≢ w
      → (sums : Interval) → IsHullOf (IsFormValue Has (sum_form v w away)) sums
      → Within (clamped_to (result_width_of op) sums.low) (clamped_to (result_width_of op) sums.high) z

-- the flag keeps its number or, where the operator flags somewhere in the boxes, becomes 1
abbrev pub IsFlag : (Point → Type 0) → Op → List Form → (before after : ℤ) → Type 0
IsFlag Has op args before after = (after ≡ before) ⊎ (((boxes : List Interval) → AreBoxes Has op args boxes → FlagsSomewhere op boxes) × (after ≡ pos 1))

pub record OperateImage (source target : Shape) (Has : Point → Type 0) (op : Op) (args : List Form) (v overflow : ℕ) (p : Point) : Type 0 where
  pub was : Point
  pub carried : Carried source target Has (v ∷ overflow ∷ []) [] was p
  pub value : IsOperated Has op args was (p.values v)
  pub flag : IsFlag Has op args (was.values overflow) (p.values overflow)
