-- What is tried at a site, on which operands it fails, and the first of them.
use Rattle.std.specs.Prelude.{ℕ, ℤ, neg_ℤ, Bool, ◌||◌, List, Option, Some, None, if◌then◌else◌, nat_lt, int_lt, slice_index_or}
use Rattle.wm_interval.specs.declared.Interval.{Interval}
use Rattle.wm_ops.specs.Arguments.{arg_at}
use Rattle.wm_ops.specs.Clamping.{leaves32}
use Rattle.wm_ops.specs.Operators.{arity_of}
use Rattle.wm_ops.specs.Outcomes.{fails_of}
use Rattle.wm_program.specs.Numbers.{plain_of}
use Rattle.wm_hull.specs.Boxes.{zero_box, BoxesFit}
use Rattle.wm_hull.specs.Failures.{Nowhere, IsFirst}
use Rattle.wm_hull.specs.Ranges.{IsBox32}
use Rattle.wm_failing.specs.declared.trial.Trial.{Trial}
use Rattle.wm_failing.specs.declared.trial.Trial.TheVariants.{Applies, Computes, Negates, Stays}

-- it fails on these operands, those that it does not take being 0
abbrev pub fails_on : Trial → ℤ → ℤ → ℤ → Bool
fails_on (Applies op) a b c = fails_of op a b c
fails_on (Computes mark) a b c = leaves32 (plain_of mark a b)
fails_on Negates a b c = leaves32 (neg_ℤ a)
fails_on (Stays low high) a b c = int_lt a low || int_lt high a

abbrev pub operands_of : Trial → ℕ
operands_of (Applies op) = arity_of op
operands_of (Computes mark) = 2
operands_of Negates = 1
operands_of (Stays low high) = 1

-- the box of the operand k: past the operands 0 alone
abbrev pub box_at : Trial → List Interval → ℕ → Interval
box_at trial boxes k = if nat_lt k (operands_of trial) then slice_index_or boxes k zero_box else zero_box

-- the boxes lie in the types of the operands: those of the operator, or 32 bits; a number that is only compared may be any
abbrev pub TrialFits : Trial → Interval → Interval → Interval → Type 0
TrialFits (Applies op) x y z = BoxesFit op x y z
TrialFits (Computes mark) x y z = IsBox32 x × IsBox32 y
TrialFits Negates x y z = IsBox32 x
TrialFits (Stays low high) x y z = Unit {0}

-- the first operands in the boxes, in lexicographic order, at which the test holds, or none
abbrev pub IsFirstOf : (ℤ → ℤ → ℤ → Bool) → Interval → Interval → Interval → Option (List ℤ) → Type 0
IsFirstOf test x y z None = Nowhere test x y z
IsFirstOf test x y z (Some args) = IsFirst test x y z (arg_at args 0) (arg_at args 1) (arg_at args 2)

-- the first operands in the boxes at which the trial fails, or none
abbrev pub IsToldFirst : Trial → Interval → Interval → Interval → Option (List ℤ) → Type 0
IsToldFirst trial x y z answer = IsFirstOf (fails_on trial) x y z answer
