-- Boxes that fit by their ends, also where an operator does not use them.
use Rattle.std.proofs.Common.{Bool, true, false, cond, ℕ, ℤ, pos, Option, Some, None, nat_lt, subst, FitsSigned, w64, to_z, of_z, arith}
use Rattle.std.proofs.lemmas.Int.{ints, to_z-of_z}
use Rattle.std.specs.Prelude.{slice_get}
use Rattle.wm_interval.specs.declared.Interval.{Interval}
use Rattle.wm_ops.specs.Arguments.{FitsAt, HasWidthOf}
use Rattle.wm_ops.specs.Operators.{arity_of, arg_widths_of}
use Rattle.wm_ops.specs.declared.operators.Op.{Op}
use Rattle.wm_ops.specs.declared.operators.Width.{Width}
use Rattle.wm_ops.specs.declared.operators.Width.TheVariants.{W16, W32}
use Rattle.wm_hull.specs.Boxes.{zero_box}

-- 0 is a number of each type
zero_fits : (width : Option Width) → HasWidthOf width (pos 0)
zero_fits None = tt
zero_fits (Some W16) = record { above = omega (arith, ints); below = omega (arith, ints) }
zero_fits (Some W32) = record { above = omega (arith, ints); below = omega (arith, ints) }

low_chosen : (width : Option Width) (x : Interval) (test : Bool) → HasWidthOf width x.low → HasWidthOf width (cond test x zero_box).low
low_chosen width x true fits = fits
low_chosen width x false fits = zero_fits width

high_chosen : (width : Option Width) (x : Interval) (test : Bool) → HasWidthOf width x.high → HasWidthOf width (cond test x zero_box).high
high_chosen width x true fits = fits
high_chosen width x false fits = zero_fits width

-- an end as it was passed to the test
pub low_used : (op : Op) (k : ℕ) (x : Interval) → FitsSigned w64 x.low → FitsAt op k (to_z w64 (of_z w64 x.low)) → FitsAt op k (cond (nat_lt k (arity_of op)) x zero_box).low
low_used op k x size fits =
    let P : ℤ → Type 0 = λ v. FitsAt op k v in
    low_chosen (slice_get (arg_widths_of op) k) x (nat_lt k (arity_of op)) (subst P (to_z-of_z w64 x.low size) fits)

pub high_used : (op : Op) (k : ℕ) (x : Interval) → FitsSigned w64 x.high → FitsAt op k (to_z w64 (of_z w64 x.high)) → FitsAt op k (cond (nat_lt k (arity_of op)) x zero_box).high
high_used op k x size fits =
    let P : ℤ → Type 0 = λ v. FitsAt op k v in
    high_chosen (slice_get (arg_widths_of op) k) x (nat_lt k (arity_of op)) (subst P (to_z-of_z w64 x.high size) fits)
