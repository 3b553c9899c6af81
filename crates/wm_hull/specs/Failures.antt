-- Arguments in boxes at which a test holds: those at which an operator fails, and those at which it flags.
use Rattle.std.specs.Prelude.{ℤ, ◌⊎◌, Bool, true, false, List, Option, Some, None, IsTrue, MatchBool}
use Rattle.wm_hull.specs.Boxes.{InBoxes, IsNotAfter}
use Rattle.wm_interval.specs.declared.Interval.{Interval}
use Rattle.wm_numbers.specs.Within.{IsWord16, IsWord32}
use Rattle.wm_ops.specs.Arguments.{arg_at}
use Rattle.wm_ops.specs.Clamping.{leaves16, leaves32}
use Rattle.wm_ops.specs.Outcomes.{fails_of}
use Rattle.wm_ops.specs.declared.operators.Op.{Op}
use Rattle.wm_ops.specs.declared.operators.Op.TheVariants.{Add, Sub, AbsS, Negate, Mult, MultR, Shl, Shr, ShrR, LAdd, LSub, LAbs, LNegate, LMult, LMac, LMsu, LShl, LShr, LShrR, ExtractH, ExtractL, LDepositH, LDepositL, Round, MacR, MsuR, NormS, NormL, DivS, SMax, SMin, LMax, LMin, LMult0, LMac0, LMsu0}

-- the test holds at some arguments in the boxes
pub record Somewhere (test : ℤ → ℤ → ℤ → Bool) (x y z : Interval) : Type 0 where
  pub a : ℤ
  pub b : ℤ
  pub c : ℤ
  pub inside : InBoxes x y z a b c
  pub holds : IsTrue (test a b c)

-- it holds at none
abbrev pub Nowhere : (ℤ → ℤ → ℤ → Bool) → Interval → Interval → Interval → Type 0
Nowhere test x y z = (a b c : ℤ) → InBoxes x y z a b c → ¬ (IsTrue (test a b c))

-- the answer tells whether the test holds at some arguments in the boxes
abbrev pub TellsWhether : Bool → (ℤ → ℤ → ℤ → Bool) → Interval → Interval → Interval → Type 0
TellsWhether answer test x y z = MatchBool answer (Somewhere test x y z) (Nowhere test x y z)

-- a, b, c are the first arguments in the boxes, in lexicographic order, at which the test holds
pub record IsFirst (test : ℤ → ℤ → ℤ → Bool) (x y z : Interval) (a b c : ℤ) : Type 0 where
  pub inside : InBoxes x y z a b c
  pub holds : IsTrue (test a b c)
  pub before : (d e f : ℤ) → InBoxes x y z d e f → IsTrue (test d e f) → IsNotAfter a b c d e f

-- the first arguments in the boxes at which the operator saturates or leaves its domain, or none
abbrev pub IsWorst : Op → Interval → Interval → Interval → Option (List ℤ) → Type 0
IsWorst op x y z None = Nowhere (fails_of op) x y z
IsWorst op x y z (Some args) = IsFirst (fails_of op) x y z (arg_at args 0) (arg_at args 1) (arg_at args 2)

-- a clamp to 16 bits changes an end of the range, or none
abbrev pub TellsLeaving16 : Bool → ℤ → ℤ → Type 0
TellsLeaving16 answer low high = MatchBool answer (IsTrue (leaves16 low) ⊎ IsTrue (leaves16 high)) (IsWord16 low × IsWord16 high)

-- a clamp to 32 bits changes an end of the range, or none
abbrev pub TellsLeaving32 : Bool → ℤ → ℤ → Type 0
TellsLeaving32 answer low high = MatchBool answer (IsTrue (leaves32 low) ⊎ IsTrue (leaves32 high)) (IsWord32 low × IsWord32 high)

-- the operator can set the flag: it is not quiet, and some clamp stands in its formula or could
abbrev pub sets_flag_of : Op → Bool
sets_flag_of Add = true
sets_flag_of Sub = true
sets_flag_of AbsS = false
sets_flag_of Negate = false
sets_flag_of Mult = true
sets_flag_of MultR = true
sets_flag_of Shl = true
sets_flag_of Shr = true
sets_flag_of ShrR = true
sets_flag_of LAdd = true
sets_flag_of LSub = true
sets_flag_of LAbs = false
sets_flag_of LNegate = false
sets_flag_of LMult = true
sets_flag_of LMac = true
sets_flag_of LMsu = true
sets_flag_of LShl = true
sets_flag_of LShr = true
sets_flag_of LShrR = true
sets_flag_of ExtractH = true
sets_flag_of ExtractL = true
sets_flag_of LDepositH = true
sets_flag_of LDepositL = true
sets_flag_of Round = true
sets_flag_of MacR = true
sets_flag_of MsuR = true
sets_flag_of NormS = true
sets_flag_of NormL = true
sets_flag_of DivS = false
sets_flag_of SMax = true
sets_flag_of SMin = true
sets_flag_of LMax = true
sets_flag_of LMin = true
sets_flag_of LMult0 = true
sets_flag_of LMac0 = true
sets_flag_of LMsu0 = true
