-- Boxes of the arguments of an operator lie in their types.
use Rattle.std.proofs.Common.{◌≡◌, sym, subst, ℕ, pos, negsuc, Bool, true, false, [], ◌∷◌, Option, Some, None, arith}
use Rattle.std.proofs.lemmas.Int.{ints}
use Rattle.std.specs.Prelude.{if◌then◌else◌, nat_lt, slice_get, IfOk, Result, Ok, Err, MatchOption}
use Rattle.wm_interval.specs.declared.Interval.{Interval}
use Rattle.wm_domain.specs.Points.{Point}
use Rattle.wm_domain.specs.declared.form.Form.{Form}
use Rattle.wm_ops.specs.Arguments.{HasWidthOf, FitsAt}
use Rattle.wm_ops.specs.Operators.{arg_widths_of, arity_of}
use Rattle.wm_ops.specs.declared.operators.Op.{Op}
use Rattle.wm_ops.specs.declared.operators.Width.{Width}
use Rattle.wm_ops.specs.declared.operators.Width.TheVariants.{W16, W32}
use Rattle.wm_hull.specs.Boxes.{zero_box}
use Rattle.wm_failing.specs.declared.trial.Trial.TheVariants.{Applies}
use Rattle.wm_failing.specs.Trials.{box_at, TrialFits}
use Rattle.wm_sight.specs.Operands.{Misses, Boxes}

zero_fits : (w : Option Width) → HasWidthOf w (pos 0)
zero_fits None = tt
zero_fits (Some W16) = record { above = omega (arith, ints); below = omega (arith, ints) }
zero_fits (Some W32) = record { above = omega (arith, ints); below = omega (arith, ints) }

pub zero_fits_at : (op : Op) (k : ℕ) → FitsAt op k (pos 0)
zero_fits_at op k = zero_fits (slice_get (arg_widths_of op) k)

box_fits : (b : Bool) (w : Option Width) (x : Interval) → HasWidthOf w x.low → HasWidthOf w x.high
    → HasWidthOf w (if b then x else zero_box).low × HasWidthOf w (if b then x else zero_box).high
box_fits true w x h k = (h, k)
box_fits false w x h k = (zero_fits w, zero_fits w)

pub boxes_fit : (op : Op) (x y z : Interval) → FitsAt op 0 x.low × FitsAt op 0 x.high → FitsAt op 1 y.low × FitsAt op 1 y.high → FitsAt op 2 z.low × FitsAt op 2 z.high
    → TrialFits (Applies op) (box_at (Applies op) (x ∷ y ∷ z ∷ []) 0) (box_at (Applies op) (x ∷ y ∷ z ∷ []) 1) (box_at (Applies op) (x ∷ y ∷ z ∷ []) 2)
boxes_fit op x y z f g h =
    let first = box_fits (nat_lt 0 (arity_of op)) (slice_get (arg_widths_of op) 0) x f.0 f.1 in
    let second = box_fits (nat_lt 1 (arity_of op)) (slice_get (arg_widths_of op) 1) y g.0 g.1 in
    let third = box_fits (nat_lt 2 (arity_of op)) (slice_get (arg_widths_of op) 2) z h.0 h.1 in
    record {
      low_ends = record { first = first.0; second = second.0; third = third.0 };
      high_ends = record { first = first.1; second = second.1; third = third.1 };
    }

told : {E : Type 0} (r : Result (Option Interval) E) (M : Type 0) (P Q : Interval → Type 0) → ((b : Interval) → P b → Q b)
    → IfOk r (λ box. MatchOption box M P) → IfOk r (λ box. MatchOption box (Unit {0}) Q)
told (Ok None) M P Q f h = tt
told (Ok (Some b)) M P Q f h = f b h
told (Err e) M P Q f h = tt

pub short_fits : {E : Type 0} (op : Op) (k : ℕ) (Has : Point → Type 0) (form : Form) (r : Result (Option Interval) E) → slice_get (arg_widths_of op) k ≡ Some W16
    → IfOk r (λ box. MatchOption box (Misses Has form (negsuc 32767) (pos 32767)) (Boxes Has form (negsuc 32767) (pos 32767)))
    → IfOk r (λ box. MatchOption box (Unit {0}) (λ b. FitsAt op k b.low × FitsAt op k b.high))
short_fits op k Has form r e h =
    told r (Misses Has form (negsuc 32767) (pos 32767)) (Boxes Has form (negsuc 32767) (pos 32767)) (λ b. FitsAt op k b.low × FitsAt op k b.high)
    (λ b x. (subst (λ w. HasWidthOf w b.low) (sym e) x.low_in, subst (λ w. HasWidthOf w b.high) (sym e) x.high_in)) h

pub long_fits : {E : Type 0} (op : Op) (k : ℕ) (Has : Point → Type 0) (form : Form) (r : Result (Option Interval) E) → slice_get (arg_widths_of op) k ≡ Some W32
    → IfOk r (λ box. MatchOption box (Misses Has form (negsuc 2147483647) (pos 2147483647)) (Boxes Has form (negsuc 2147483647) (pos 2147483647)))
    → IfOk r (λ box. MatchOption box (Unit {0}) (λ b. FitsAt op k b.low × FitsAt op k b.high))
long_fits op k Has form r e h =
    told r (Misses Has form (negsuc 2147483647) (pos 2147483647)) (Boxes Has form (negsuc 2147483647) (pos 2147483647)) (λ b. FitsAt op k b.low × FitsAt op k b.high)
    (λ b x. (subst (λ w. HasWidthOf w b.low) (sym e) x.low_in, subst (λ w. HasWidthOf w b.high) (sym e) x.high_in)) h
