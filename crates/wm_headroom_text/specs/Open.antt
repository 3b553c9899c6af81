-- The operators that are not proved, and the least shifts with which they fail nowhere in their boxes.
use Rattle.std.specs.Prelude.{ℕ, List, [], ◌∷◌, Option, Some, None, slice_get, slice_index_or}
use Rattle.wm_interval.specs.declared.Interval.{Interval}
use Rattle.wm_ops.specs.declared.operators.Op.{Op}
use Rattle.wm_hull.specs.Boxes.{BoxesFit, used_box, zero_box}
use Rattle.wm_headroom.specs.Headroom.{IsHeadroom}
use Rattle.wm_program.specs.declared.program.SiteInfo.{SiteInfo}
use Rattle.wm_program.specs.declared.program.SiteKind.{SiteKind}
use Rattle.wm_program.specs.declared.program.SiteKind.TheVariants as kind
use Rattle.wm_findings.specs.declared.findings.Verdict.{Verdict}
use Rattle.wm_findings.specs.declared.findings.Verdict.TheVariants.{Safe, Never, Unproved}

-- an operator, and the boxes in which it may fail
pub record Open : Type 0 where
  pub op : Op
  pub boxes : List Interval

abbrev pub boxes_in : Op → Option Verdict → Option Open
boxes_in op None = None
boxes_in op (Some (Safe unset)) = None
boxes_in op (Some Never) = None
boxes_in op (Some (Unproved boxes values instance)) = Some (record { op = op; boxes = boxes })

abbrev pub open_in : SiteKind → Option Verdict → Option Open
open_in (kind.Operator op) verdict = boxes_in op verdict
open_in kind.Index verdict = None
open_in kind.View verdict = None
open_in kind.Arithmetic verdict = None
open_in kind.Narrowing verdict = None

-- what is open at a site; nothing where it is no operator, or is proved
abbrev pub open_at : Option SiteInfo → Option Verdict → Option Open
open_at None verdict = None
open_at (Some site) verdict = open_in site.kind verdict

-- the boxes of three operands; where there are fewer, the others are of 0 alone
abbrev pub three : List Interval → List Interval
three boxes = slice_index_or boxes 0 zero_box ∷ slice_index_or boxes 1 zero_box ∷ slice_index_or boxes 2 zero_box ∷ []

-- the boxes lie in the argument types of the operator
abbrev pub Fits : Option Open → Type 0
Fits None = Unit {0}
Fits (Some it) = BoxesFit it.op (used_box it.op (three it.boxes) 0) (used_box it.op (three it.boxes) 1) (used_box it.op (three it.boxes) 2)

abbrev pub FitEach : List SiteInfo → List Verdict → Type 0
FitEach sites verdicts = (k : ℕ) → Fits (open_at (slice_get sites k) (slice_get verdicts k))

-- the least shift of what is open
abbrev pub IsShift : Option Open → Option ℕ → Type 0
IsShift None shift = Unit {0}
IsShift (Some it) shift = IsHeadroom it.op (three it.boxes) shift

abbrev pub AreShifts : List SiteInfo → List Verdict → List (Option ℕ) → Type 0
AreShifts sites verdicts shifts = (k : ℕ) → IsShift (open_at (slice_get sites k) (slice_get verdicts k)) (slice_index_or shifts k None)
