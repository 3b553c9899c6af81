-- Plain arithmetic on whole numbers, comparisons, and the ways in which a number does not fit.
use Rattle.std.specs.Prelude.{ℕ, Bool, not, ◌||◌, List, ℤ, pos, negsuc, ◌+ℤ◌, ◌-ℤ◌, ◌*ℤ◌, int_lt, int_div, slice_index_or}
use Rattle.std.specs.Ordering.{int_eq}
use Rattle.wm_numbers.specs.Clamp.{clamp16, clamp32}
use Rattle.wm_ops.specs.Parts.{low_half}
use Rattle.wm_ops.specs.Outcomes.{outcome_of}
use Rattle.wm_ops.specs.declared.operators.Op.{Op}
use Rattle.wm_ops.specs.declared.operators.Width.{Width}
use Rattle.wm_ops.specs.declared.operators.Width.TheVariants.{W16, W32}
use Rattle.wm_ops.specs.declared.outcomes.Outcome.{Outcome}
use Rattle.wm_program.specs.declared.tree.PlainMark.{PlainMark}
use Rattle.wm_program.specs.declared.tree.PlainMark.TheVariants.{Plus, Minus, Times, Divide}
use Rattle.wm_program.specs.declared.tree.Comparison.{Comparison}
use Rattle.wm_program.specs.declared.tree.Comparison.TheVariants.{Less, LessEqual, Greater, GreaterEqual, Equal, NotEqual}

-- the exact value; a quotient is truncated towards zero
abbrev pub plain_of : PlainMark → ℤ → ℤ → ℤ
plain_of Plus a b = a +ℤ b
plain_of Minus a b = a -ℤ b
plain_of Times a b = a *ℤ b
plain_of Divide a b = int_div a b

abbrev pub compares : Comparison → ℤ → ℤ → Bool
compares Less a b = int_lt a b
compares LessEqual a b = not (int_lt b a)
compares Greater a b = int_lt b a
compares GreaterEqual a b = not (int_lt a b)
compares Equal a b = int_eq a b
compares NotEqual a b = not (int_eq a b)

-- a cast: to 16 bits the low half, to 32 bits the number itself
abbrev pub cast_to : Width → ℤ → ℤ
cast_to W16 z = low_half z
cast_to W32 z = z

-- the nearest number of the type
abbrev pub clamp_to : Width → ℤ → ℤ
clamp_to W16 z = clamp16 z
clamp_to W32 z = clamp32 z

-- z is no index below the limit
abbrev pub is_outside : ℕ → ℤ → Bool
is_outside limit z = int_lt z (pos 0) || not (int_lt z (pos limit))

abbrev pub natural : ℤ → ℕ
natural (pos n) = n
natural (negsuc n) = 0

-- the operator at its arguments, those that it does not take being 0
abbrev pub operator_outcome : Op → List ℤ → Outcome
operator_outcome op args =
    outcome_of op (slice_index_or args 0 (pos 0)) (slice_index_or args 1 (pos 0)) (slice_index_or args 2 (pos 0))
