-- The least shift of the operands after which an operator fails nowhere in its boxes.
use Rattle.std.specs.Prelude.{ℕ, ◌<◌, Bool, List, Option, Some, None, if◌then◌else◌, nat_lt, MatchBool}
use Rattle.wm_numbers.specs.Floor.{floor_shift}
use Rattle.wm_numbers.proofs.Floors.{floor_mono}
use Rattle.wm_interval.specs.declared.Interval.{Interval}
use Rattle.wm_ops.specs.Outcomes.{fails_of}
use Rattle.wm_ops.specs.declared.operators.Op.{Op}
use Rattle.wm_ops.specs.declared.operators.Op.TheVariants.{Add, Sub, AbsS, Negate, Mult, MultR, Shl, Shr, ShrR, LAdd, LSub, LAbs, LNegate, LMult, LMac, LMsu, LShl, LShr, LShrR, ExtractH, ExtractL, LDepositH, LDepositL, Round, MacR, MsuR, NormS, NormL, DivS, SMax, SMin, LMax, LMin, LMult0, LMac0, LMsu0}
use Rattle.wm_hull.specs.Boxes.{used_box}
use Rattle.wm_hull.specs.Failures.{Somewhere, Nowhere}

-- how many operands, from the first, are shifted
abbrev pub shifted_operands : Op → ℕ
shifted_operands Add = 2
shifted_operands Sub = 2
shifted_operands AbsS = 1
shifted_operands Negate = 1
shifted_operands Mult = 1
shifted_operands MultR = 1
shifted_operands Shl = 1
shifted_operands Shr = 1
shifted_operands ShrR = 1
shifted_operands LAdd = 2
shifted_operands LSub = 2
shifted_operands LAbs = 1
shifted_operands LNegate = 1
shifted_operands LMult = 1
shifted_operands LMac = 2
shifted_operands LMsu = 2
shifted_operands LShl = 1
shifted_operands LShr = 1
shifted_operands LShrR = 1
shifted_operands ExtractH = 1
shifted_operands ExtractL = 1
shifted_operands LDepositH = 1
shifted_operands LDepositL = 1
shifted_operands Round = 1
shifted_operands MacR = 2
shifted_operands MsuR = 2
shifted_operands NormS = 1
shifted_operands NormL = 1
shifted_operands DivS = 0
shifted_operands SMax = 2
shifted_operands SMin = 2
shifted_operands LMax = 2
shifted_operands LMin = 2
shifted_operands LMult0 = 1
shifted_operands LMac0 = 2
shifted_operands LMsu0 = 2

-- the box with each end divided by 2 ^ places and rounded down
abbrev pub shifted_box : Interval → ℕ → Interval
shifted_box x places = record { low = floor_shift x.low places; high = floor_shift x.high places; ordered = floor_mono places x.ordered }

-- the box of the operand k, shifted where it is one of those that are
abbrev pub operand_of : Op → ℕ → Interval → ℕ → Interval
operand_of op k x places = if nat_lt k (shifted_operands op) then shifted_box x places else x

-- the same of the boxes that the operator uses
abbrev pub operand_at : Op → ℕ → List Interval → ℕ → Interval
operand_at op k boxes places = operand_of op k (used_box op boxes k) places

-- with its operands shifted so the operator fails at some arguments in the boxes, or at none
abbrev pub FailsAt : Op → List Interval → ℕ → Type 0
FailsAt op boxes places = Somewhere (fails_of op) (operand_at op 0 boxes places) (operand_at op 1 boxes places) (operand_at op 2 boxes places)

abbrev pub PassesAt : Op → List Interval → ℕ → Type 0
PassesAt op boxes places = Nowhere (fails_of op) (operand_at op 0 boxes places) (operand_at op 1 boxes places) (operand_at op 2 boxes places)

abbrev pub TellsPassing : Bool → Op → List Interval → ℕ → Type 0
TellsPassing answer op boxes places = MatchBool answer (PassesAt op boxes places) (FailsAt op boxes places)

-- so many places are the least, from 0 to 31, with which the operator fails nowhere
pub record IsLeast (op : Op) (boxes : List Interval) (places : ℕ) : Type 0 where
  pub within : places < 32
  pub passes : PassesAt op boxes places
  pub before : (fewer : ℕ) → fewer < places → FailsAt op boxes fewer

-- the least shift, or none where the operator fails with each
abbrev pub IsHeadroom : Op → List Interval → Option ℕ → Type 0
IsHeadroom op boxes (Some places) = IsLeast op boxes places
IsHeadroom op boxes None = (places : ℕ) → places < 32 → FailsAt op boxes places
