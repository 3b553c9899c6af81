-- The boxes after the shift: they are those of the definition, they lie in the argument types, and what is told of them.
use Rattle.std.proofs.Common.{◌≡◌, refl, sym, subst, ap, ◌∙◌, ℕ, zero, suc, ◌<◌, List, [], ◌∷◌, length, Option, Some, None, Bool, true, false, cond, not, true≢false, nat_lt, ℤ, arith}
use Rattle.std.proofs.lemmas.Int.{ints}
use Rattle.std.specs.Prelude.{is_some, slice_get, if◌then◌else◌}
use Rattle.std.specs.List.{slice_index_or}
use Rattle.wm_numbers.specs.Floor.{floor_shift}
use Rattle.wm_interval.specs.declared.Interval.{Interval}
use Rattle.wm_ops.specs.Arguments.{HasWidthOf, arg_at}
use Rattle.wm_ops.specs.Operators.{arity_of, arg_widths_of}
use Rattle.wm_ops.specs.Outcomes.{fails_of}
use Rattle.wm_ops.specs.declared.operators.Op.{Op}
use Rattle.wm_ops.specs.declared.operators.Op.TheVariants.{Add, Sub, AbsS, Negate, Mult, MultR, Shl, Shr, ShrR, LAdd, LSub, LAbs, LNegate, LMult, LMac, LMsu, LShl, LShr, LShrR, ExtractH, ExtractL, LDepositH, LDepositL, Round, MacR, MsuR, NormS, NormL, DivS, SMax, SMin, LMax, LMin, LMult0, LMac0, LMsu0}
use Rattle.wm_ops.specs.declared.operators.Width.{Width}
use Rattle.wm_ops.specs.declared.operators.Width.TheVariants.{W16, W32}
use Rattle.wm_ops.proofs.WidthLemmas.{floor_fits}
use Rattle.wm_hull.specs.Boxes.{BoxesFit, zero_box}
use Rattle.wm_hull.specs.Failures.{Somewhere, Nowhere, IsWorst}
use Rattle.wm_headroom.specs.Headroom.{shifted_box, operand_of, operand_at}

-- a place of a list has one item, whatever would stand past the end
pub any_default : (xs : List Interval) (k : ℕ) (d e : Interval) → k < length xs → slice_index_or xs k d ≡ slice_index_or xs k e
any_default [] k d e h = absurd (omega arith)
any_default (x ∷ xs) zero d e h = refl
any_default (x ∷ xs) (suc k) d e h = any_default xs k d e (omega arith)

-- the first operand, shifted before or after it is known to be used
pub used_first : (op : Op) (a raw : Interval) (places : ℕ) → a ≡ operand_of op 0 raw places →
    (if nat_lt 0 (arity_of op) then a else zero_box) ≡ operand_of op 0 (if nat_lt 0 (arity_of op) then raw else zero_box) places
used_first Add a raw places is = is
used_first Sub a raw places is = is
used_first AbsS a raw places is = is
used_first Negate a raw places is = is
used_first Mult a raw places is = is
used_first MultR a raw places is = is
used_first Shl a raw places is = is
used_first Shr a raw places is = is
used_first ShrR a raw places is = is
used_first LAdd a raw places is = is
used_first LSub a raw places is = is
used_first LAbs a raw places is = is
used_first LNegate a raw places is = is
used_first LMult a raw places is = is
used_first LMac a raw places is = is
used_first LMsu a raw places is = is
used_first LShl a raw places is = is
used_first LShr a raw places is = is
used_first LShrR a raw places is = is
used_first ExtractH a raw places is = is
used_first ExtractL a raw places is = is
used_first LDepositH a raw places is = is
used_first LDepositL a raw places is = is
used_first Round a raw places is = is
used_first MacR a raw places is = is
used_first MsuR a raw places is = is
used_first NormS a raw places is = is
used_first NormL a raw places is = is
used_first DivS a raw places is = is
used_first SMax a raw places is = is
used_first SMin a raw places is = is
used_first LMax a raw places is = is
used_first LMin a raw places is = is
used_first LMult0 a raw places is = is
used_first LMac0 a raw places is = is
used_first LMsu0 a raw places is = is

-- the second operand, shifted before or after it is known to be used
pub used_second : (op : Op) (a raw : Interval) (places : ℕ) → a ≡ operand_of op 1 raw places →
    (if nat_lt 1 (arity_of op) then a else zero_box) ≡ operand_of op 1 (if nat_lt 1 (arity_of op) then raw else zero_box) places
used_second Add a raw places is = is
used_second Sub a raw places is = is
used_second AbsS a raw places is = refl
used_second Negate a raw places is = refl
used_second Mult a raw places is = is
used_second MultR a raw places is = is
used_second Shl a raw places is = is
used_second Shr a raw places is = is
used_second ShrR a raw places is = is
used_second LAdd a raw places is = is
used_second LSub a raw places is = is
used_second LAbs a raw places is = refl
used_second LNegate a raw places is = refl
used_second LMult a raw places is = is
used_second LMac a raw places is = is
used_second LMsu a raw places is = is
used_second LShl a raw places is = is
used_second LShr a raw places is = is
used_second LShrR a raw places is = is
used_second ExtractH a raw places is = refl
used_second ExtractL a raw places is = refl
used_second LDepositH a raw places is = refl
used_second LDepositL a raw places is = refl
used_second Round a raw places is = refl
used_second MacR a raw places is = is
used_second MsuR a raw places is = is
used_second NormS a raw places is = refl
used_second NormL a raw places is = refl
used_second DivS a raw places is = is
used_second SMax a raw places is = is
used_second SMin a raw places is = is
used_second LMax a raw places is = is
used_second LMin a raw places is = is
used_second LMult0 a raw places is = is
used_second LMac0 a raw places is = is
used_second LMsu0 a raw places is = is

-- the third operand, shifted before or after it is known to be used
pub used_third : (op : Op) (a raw : Interval) (places : ℕ) → a ≡ operand_of op 2 raw places →
    (if nat_lt 2 (arity_of op) then a else zero_box) ≡ operand_of op 2 (if nat_lt 2 (arity_of op) then raw else zero_box) places
used_third Add a raw places is = refl
used_third Sub a raw places is = refl
used_third AbsS a raw places is = refl
used_third Negate a raw places is = refl
used_third Mult a raw places is = refl
used_third MultR a raw places is = refl
used_third Shl a raw places is = refl
used_third Shr a raw places is = refl
used_third ShrR a raw places is = refl
used_third LAdd a raw places is = refl
used_third LSub a raw places is = refl
used_third LAbs a raw places is = refl
used_third LNegate a raw places is = refl
used_third LMult a raw places is = refl
used_third LMac a raw places is = is
used_third LMsu a raw places is = is
used_third LShl a raw places is = refl
used_third LShr a raw places is = refl
used_third LShrR a raw places is = refl
used_third ExtractH a raw places is = refl
used_third ExtractL a raw places is = refl
used_third LDepositH a raw places is = refl
used_third LDepositL a raw places is = refl
used_third Round a raw places is = refl
used_third MacR a raw places is = is
used_third MsuR a raw places is = is
used_third NormS a raw places is = refl
used_third NormL a raw places is = refl
used_third DivS a raw places is = refl
used_third SMax a raw places is = refl
used_third SMin a raw places is = refl
used_third LMax a raw places is = refl
used_third LMin a raw places is = refl
used_third LMult0 a raw places is = refl
used_third LMac0 a raw places is = is
used_third LMsu0 a raw places is = is

-- the same for the boxes as they are handed in
pub first_at : (op : Op) (boxes : List Interval) (a d : Interval) (places : ℕ) → length boxes ≡ 3 → a ≡ operand_of op 0 (slice_index_or boxes 0 d) places →
    (if nat_lt 0 (arity_of op) then a else zero_box) ≡ operand_at op 0 boxes places
first_at op boxes a d places three is =
    used_first op a (slice_index_or boxes 0 zero_box) places (is ∙ ap (λ (x : Interval). operand_of op 0 x places) (any_default boxes 0 d zero_box (omega (arith, three))))

pub second_at : (op : Op) (boxes : List Interval) (a d : Interval) (places : ℕ) → length boxes ≡ 3 → a ≡ operand_of op 1 (slice_index_or boxes 1 d) places →
    (if nat_lt 1 (arity_of op) then a else zero_box) ≡ operand_at op 1 boxes places
second_at op boxes a d places three is =
    used_second op a (slice_index_or boxes 1 zero_box) places (is ∙ ap (λ (x : Interval). operand_of op 1 x places) (any_default boxes 1 d zero_box (omega (arith, three))))

pub third_at : (op : Op) (boxes : List Interval) (a d : Interval) (places : ℕ) → length boxes ≡ 3 → a ≡ operand_of op 2 (slice_index_or boxes 2 d) places →
    (if nat_lt 2 (arity_of op) then a else zero_box) ≡ operand_at op 2 boxes places
third_at op boxes a d places three is =
    used_third op a (slice_index_or boxes 2 zero_box) places (is ∙ ap (λ (x : Interval). operand_of op 2 x places) (any_default boxes 2 d zero_box (omega (arith, three))))

-- a shift keeps a number in its type
floor_any : (width : Option Width) (z : ℤ) (n : ℕ) → HasWidthOf width z → HasWidthOf width (floor_shift z n)
floor_any None z n fits = tt
floor_any (Some W16) z n fits = floor_fits _ _ z n (omega (arith, ints)) (omega (arith, ints)) fits
floor_any (Some W32) z n fits = floor_fits _ _ z n (omega (arith, ints)) (omega (arith, ints)) fits

low_chosen : (width : Option Width) (x : Interval) (places : ℕ) (test : Bool) → HasWidthOf width x.low → HasWidthOf width (cond test (shifted_box x places) x).low
low_chosen width x places true fits = floor_any width x.low places fits
low_chosen width x places false fits = fits

high_chosen : (width : Option Width) (x : Interval) (places : ℕ) (test : Bool) → HasWidthOf width x.high → HasWidthOf width (cond test (shifted_box x places) x).high
high_chosen width x places true fits = floor_any width x.high places fits
high_chosen width x places false fits = fits

-- the shifted boxes lie in the argument types
pub shifted_fit : (op : Op) (x y z : Interval) (places : ℕ) → BoxesFit op x y z → BoxesFit op (operand_of op 0 x places) (operand_of op 1 y places) (operand_of op 2 z places)
shifted_fit op x y z places fit = record {
  low_ends = record {
    first = low_chosen (slice_get (arg_widths_of op) 0) x places _ fit.low_ends.first;
    second = low_chosen (slice_get (arg_widths_of op) 1) y places _ fit.low_ends.second;
    third = low_chosen (slice_get (arg_widths_of op) 2) z places _ fit.low_ends.third;
  };
  high_ends = record {
    first = high_chosen (slice_get (arg_widths_of op) 0) x places _ fit.high_ends.first;
    second = high_chosen (slice_get (arg_widths_of op) 1) y places _ fit.high_ends.second;
    third = high_chosen (slice_get (arg_widths_of op) 2) z places _ fit.high_ends.third;
  };
}

-- three boxes, each for one that equals it
pub moved : (P : Interval → Interval → Interval → Type 0) {x y z u v w : Interval} → x ≡ u → y ≡ v → z ≡ w → P x y z → P u v w
moved P {x} {y} {z} {u} {v} {w} e f g p = subst (λ k. P u v k) g (subst (λ k. P u k z) f (subst (λ k. P k y z) e p))

-- whether there are first arguments at which the operator fails tells whether it fails
pub told_by : (op : Op) (x y z : Interval) (worst : Option (List ℤ)) (answer : Bool) → is_some worst ≡ not answer → IsWorst op x y z worst →
    cond answer (Nowhere (fails_of op) x y z) (Somewhere (fails_of op) x y z)
told_by op x y z None true is nowhere = nowhere
told_by op x y z None false is nowhere = absurd (true≢false (sym is))
told_by op x y z (Some args) true is first = absurd (true≢false is)
told_by op x y z (Some args) false is first = record { a = arg_at args 0; b = arg_at args 1; c = arg_at args 2; inside = first.inside; holds = first.holds }
