-- What an edge of a site shows by the points of the state before it.
use Rattle.std.specs.Prelude.{ℕ, ℤ, pos, negsuc, ◌≡◌, ◌⊎◌, Bool, true, false, List, [], ◌∷◌, Option, Some, None, if◌then◌else◌, nat_lt, slice_get, slice_index_or}
use Rattle.wm_interval.specs.declared.Interval.{Interval}
use Rattle.wm_domain.specs.Points.{Point}
use Rattle.wm_domain.specs.States.{IsBare}
use Rattle.wm_domain.specs.Changes.{IsCellOf}
use Rattle.wm_domain.specs.declared.form.Form.{Form}
use Rattle.wm_ops.specs.Operators.{arg_widths_of, arity_of}
use Rattle.wm_ops.specs.declared.operators.Op.{Op}
use Rattle.wm_ops.specs.declared.operators.Op.TheVariants.{Add, Sub, LAdd, LSub}
use Rattle.wm_ops.specs.declared.operators.Width.{Width}
use Rattle.wm_ops.specs.declared.operators.Width.TheVariants.{W16, W32}
use Rattle.wm_hull.specs.Boxes.{zero_box}
use Rattle.wm_program.specs.declared.program.SiteKind.{SiteKind}
use Rattle.wm_program.specs.declared.program.SiteKind.TheVariants as kinds
use Rattle.wm_program.specs.declared.tree.PlainMark.TheVariants.{Plus, Minus}
use Rattle.wm_flow.specs.declared.action.Action.{Action}
use Rattle.wm_flow.specs.declared.action.Action.TheVariants as actions
use Rattle.wm_flow.specs.declared.action.Combined.{Combined}
use Rattle.wm_flow.specs.declared.action.Combined.TheVariants as ways
use Rattle.wm_failing.specs.declared.trial.Trial.{Trial}
use Rattle.wm_failing.specs.declared.trial.Trial.TheVariants as trials
use Rattle.wm_failing.specs.Trials.{operands_of, IsToldFirst}
use Rattle.wm_tally.specs.declared.seen.Failure.{Failure}
use Rattle.wm_tally.specs.declared.seen.Seen.{Seen}
use Rattle.wm_tally.specs.declared.seen.Seen.TheVariants as sights
use Rattle.wm_sight.specs.Ranges.{IsBox, HasNoBox, Stays}
use Rattle.wm_sight.specs.Sums.{sum_of}

-- ---- operands

-- a form whose range is cut to the numbers from `low` to `high`
pub record Operand : Type 0 where
  pub form : Form
  pub low : ℤ
  pub high : ℤ

-- the box of an operand; where there is none it is that of 0 alone
abbrev pub HasBox : (Point → Type 0) → Option Operand → Interval → Type 0
HasBox Has None box = box ≡ zero_box
HasBox Has (Some it) box = IsBox Has it.form it.low it.high box

-- nothing is left of its range
abbrev pub IsOut : (Point → Type 0) → Option Operand → Type 0
IsOut Has None = ⊥
IsOut Has (Some it) = HasNoBox Has it.form it.low it.high

abbrev pub form_at : List Form → ℕ → Form
form_at forms k = slice_index_or forms k (record { terms = []; constant = pos 0 })

-- an operand of 32 bits
abbrev pub word_of : Form → Option Operand
word_of form = Some (record { form = form; low = negsuc 2147483647; high = pos 2147483647 })

-- a number of 64 bits, as each value of a form is
abbrev pub any_of : Form → Option Operand
any_of form = Some (record { form = form; low = negsuc 9223372036854775807; high = pos 9223372036854775807 })

abbrev pub operand_of : Option Width → Form → Option Operand
operand_of None form = None
operand_of (Some W16) form = Some (record { form = form; low = negsuc 32767; high = pos 32767 })
operand_of (Some W32) form = word_of form

-- the argument k of an operator, in its type; none past its arity
abbrev pub argument_of : Op → ℕ → Form → Option Operand
argument_of op k form = if nat_lt k (arity_of op) then operand_of (slice_get (arg_widths_of op) k) form else None

-- a number that is tested: an index and the beginning of a view may be any, other numbers have 32 bits
abbrev pub tested_of : SiteKind → Form → Option Operand
tested_of (kinds.Operator op) form = word_of form
tested_of kinds.Index form = any_of form
tested_of kinds.View form = any_of form
tested_of kinds.Arithmetic form = word_of form
tested_of kinds.Narrowing form = word_of form

-- ---- trials

-- the boxes of three operands
pub record AreBoxes (Has : Point → Type 0) (a b c : Option Operand) (x y z : Interval) : Type 0 where
  pub first : HasBox Has a x
  pub second : HasBox Has b y
  pub third : HasBox Has c z

-- it does not fit, and the values are the first in the boxes that fail
pub record IsFailing (trial : Trial) (Fits : Type 0) (x y z : Interval) (failure : Failure) : Type 0 where
  pub boxes : failure.boxes ≡ x ∷ y ∷ z ∷ []
  pub operands : failure.operands ≡ operands_of trial
  pub first : IsToldFirst trial x y z (Some failure.values)
  pub unfit : Fits → ⊥

-- what a trial with operands in these boxes shows: it is fine where it fits, or where none in the boxes fail
abbrev pub IsShown : Trial → (Fits : Type 0) → (x y z : Interval) → Seen → Type 0
IsShown trial Fits x y z sights.Away = ⊥
IsShown trial Fits x y z sights.Fine = Fits ⊎ IsToldFirst trial x y z None
IsShown trial Fits x y z (sights.Failing failure) = IsFailing trial Fits x y z failure
IsShown trial Fits x y z sights.Unset = ⊥

-- it is shown with the boxes of the operands
pub record IsShownBy (trial : Trial) (Fits : Type 0) (Has : Point → Type 0) (a b c : Option Operand) (seen : Seen) : Type 0 where
  pub x : Interval
  pub y : Interval
  pub z : Interval
  pub boxes : AreBoxes Has a b c x y z
  pub shows : IsShown trial Fits x y z seen

-- what a trial with these operands shows: nothing where an operand has no box
abbrev pub IsTried : Trial → (Fits : Type 0) → (Point → Type 0) → (a b c : Option Operand) → Seen → Type 0
IsTried trial Fits Has a b c sights.Away = IsOut Has a ⊎ (IsOut Has b ⊎ IsOut Has c)
IsTried trial Fits Has a b c sights.Fine = IsShownBy trial Fits Has a b c sights.Fine
IsTried trial Fits Has a b c (sights.Failing failure) = IsShownBy trial Fits Has a b c (sights.Failing failure)
IsTried trial Fits Has a b c sights.Unset = ⊥

-- what a trial of these boxes shows by its first failing values
abbrev pub shown_of : (fits : Bool) → (operands : ℕ) → List Interval → Option (List ℤ) → Seen
shown_of fits operands boxes None = sights.Fine
shown_of true operands boxes (Some values) = sights.Fine
shown_of false operands boxes (Some values) = sights.Failing (record { operands = operands; boxes = boxes; values = values })

-- ---- edges

-- it is a form, which stays from `low` to `high`
abbrev pub StaysIn : (Point → Type 0) → Option Form → (low high : ℤ) → Type 0
StaysIn Has None low high = ⊥
StaysIn Has (Some form) low high = Stays Has form low high

-- a sum or a difference whose form stays in the type of its result
abbrev pub SumFits16 : (Point → Type 0) → (turn : Bool) → List Form → Type 0
SumFits16 Has turn args = StaysIn Has (sum_of (form_at args 0) turn (form_at args 1)) (negsuc 32767) (pos 32767)

abbrev pub SumFits32 : (Point → Type 0) → (turn : Bool) → List Form → Type 0
SumFits32 Has turn args = StaysIn Has (sum_of (form_at args 0) turn (form_at args 1)) (negsuc 2147483647) (pos 2147483647)

-- the operator is a sum or a difference that cannot saturate by its form
abbrev pub FitsByForm : Op → (Point → Type 0) → List Form → Type 0
FitsByForm op Has args =
    ((op ≡ Add) × SumFits16 Has false args) ⊎ (((op ≡ Sub) × SumFits16 Has true args)
    ⊎ (((op ≡ LAdd) × SumFits32 Has false args) ⊎ ((op ≡ LSub) × SumFits32 Has true args)))

abbrev pub IsOperated : (Point → Type 0) → Op → List Form → Seen → Type 0
IsOperated Has op args seen =
    IsTried (trials.Applies op) (FitsByForm op Has args) Has (argument_of op 0 (form_at args 0)) (argument_of op 1 (form_at args 1)) (argument_of op 2 (form_at args 2)) seen

-- what a tested form shows, which is fine where it fits
abbrev pub IsTested : SiteKind → (Fits : Type 0) → (Point → Type 0) → List Form → (low high : ℤ) → Combined → Seen → Type 0
IsTested kind Fits Has args low high ways.Itself seen = IsTried (trials.Stays low high) Fits Has (tested_of kind (form_at args 0)) None None seen
IsTested kind Fits Has args low high ways.Sum seen = IsTried (trials.Computes Plus) Fits Has (word_of (form_at args 0)) (word_of (form_at args 1)) None seen
IsTested kind Fits Has args low high ways.Difference seen = IsTried (trials.Computes Minus) Fits Has (word_of (form_at args 0)) (word_of (form_at args 1)) None seen
IsTested kind Fits Has args low high ways.Negative seen = IsTried trials.Negates Fits Has (word_of (form_at args 0)) None None seen

-- some cell of the array is set at a point
pub record HasCell (Has : Point → Type 0) (array : ℕ) : Type 0 where
  pub number : ℤ
  pub is : IsCellOf Has array number

-- a read: unset where there is a point and no cell of the array is set
abbrev pub IsRead : (Point → Type 0) → (array : ℕ) → Seen → Type 0
IsRead Has array sights.Away = IsBare Has ⊎ HasCell Has array
IsRead Has array sights.Fine = ⊥
IsRead Has array (sights.Failing failure) = ⊥
IsRead Has array sights.Unset = (IsBare Has → ⊥) × (HasCell Has array → ⊥)

-- what an edge with this action shows of a site of the kind
abbrev pub IsSeen : SiteKind → (Point → Type 0) → Action → Seen → Type 0
IsSeen kind Has (actions.AssignForm target form) seen = seen ≡ sights.Away
IsSeen kind Has (actions.Plain mark args target) seen = IsTried (trials.Computes mark) ⊥ Has (word_of (form_at args 0)) (word_of (form_at args 1)) None seen
IsSeen kind Has (actions.Cast form target) seen = seen ≡ sights.Away
IsSeen kind Has (actions.AssignRange target range) seen = seen ≡ sights.Away
IsSeen kind Has (actions.SetArray array summary) seen = seen ≡ sights.Away
IsSeen kind Has (actions.Operate op args target overflow) seen = IsOperated Has op args seen
IsSeen kind Has (actions.Read array target) seen = IsRead Has array seen
IsSeen kind Has (actions.Write array value length) seen = seen ≡ sights.Away
IsSeen kind Has (actions.Clear variables) seen = seen ≡ sights.Away
IsSeen kind Has (actions.Keep form relation) seen = seen ≡ sights.Away
IsSeen kind Has (actions.Test args form low high how) seen = IsTested kind (Stays Has form low high) Has args low high how seen
IsSeen kind Has (actions.Count word) seen = seen ≡ sights.Away
IsSeen kind Has (actions.Enter picks arrays arguments) seen = seen ≡ sights.Away
IsSeen kind Has (actions.Leave call from_call from_exit arrays result) seen = seen ≡ sights.Away
IsSeen kind Has (actions.Reset counters) seen = seen ≡ sights.Away
IsSeen kind Has (actions.Turn growths) seen = seen ≡ sights.Away
IsSeen kind Has (actions.Tie counter loop_step variable step) seen = seen ≡ sights.Away
IsSeen kind Has (actions.Inputs scalars arrays) seen = seen ≡ sights.Away
