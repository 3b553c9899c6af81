-- Boxes that are cut to the types of arguments.
use Rattle.std.proofs.Common.{◌≡◌, ℕ, ◌<◌, ℤ, pos, negsuc, Bool, true, false, List, [], ◌∷◌, Option, Some, None, refl, sym, ◌∙◌, subst, arith}
use Rattle.std.specs.Prelude.{◌↔◌, if◌then◌else◌, nat_lt, slice_get}
use Rattle.std.proofs.lemmas.Int.{ints}
use Rattle.wm_numbers.specs.Within.{Within}
use Rattle.wm_numbers.proofs.Order.{le_refl}
use Rattle.wm_interval.specs.declared.Interval.{Interval}
use Rattle.wm_interval.specs.Holds.{Holds, IsHullOf}
use Rattle.wm_ops.specs.declared.operators.Op.{Op}
use Rattle.wm_ops.specs.declared.operators.Width.{Width}
use Rattle.wm_ops.specs.declared.operators.Width.TheVariants.{W16, W32}
use Rattle.wm_ops.specs.Arguments.{HasWidth, HasWidthOf, FitsAt}
use Rattle.wm_ops.specs.Operators.{arg_widths_of, arity_of}
use Rattle.wm_hull.specs.Boxes.{BoxesFit, used_box, zero_box}
use Rattle.wm_domain.specs.declared.form.Form.{Form}
use Rattle.wm_domain.specs.Points.{Point}
use Rattle.wm_assign.specs.Giving.{InRange}
use Rattle.wm_given.specs.Parts.{IsCut}
use Rattle.wm_step.specs.Operating.{InArgumentBy, InArgument, AreBoxes, HasArguments, form_at}
use Rattle.wm_boxed.specs.Boxing.{IsArgumentBox, AreBoxesOf}

pub numbers16 : (r : Interval) → r.low ≡ negsuc 32767 → r.high ≡ pos 32767 → (z : ℤ) → Holds r z ↔ HasWidth W16 z
numbers16 r el eh = λ z. (
  λ h. record { above = omega (arith, ints, el, h.above); below = omega (arith, ints, eh, h.below) },
  λ h. record { above = omega (arith, ints, el, h.above); below = omega (arith, ints, eh, h.below) },
)

pub numbers32 : (r : Interval) → r.low ≡ negsuc 2147483647 → r.high ≡ pos 2147483647 → (z : ℤ) → Holds r z ↔ HasWidth W32 z
numbers32 r el eh = λ z. (
  λ h. record { above = omega (arith, ints, el, h.above); below = omega (arith, ints, eh, h.below) },
  λ h. record { above = omega (arith, ints, el, h.above); below = omega (arith, ints, eh, h.below) },
)

-- an interval that holds exactly some numbers is their range
pub hull_of : (Is : ℤ → Type 0) (r : Interval) → ((z : ℤ) → Holds r z ↔ Is z) → IsHullOf Is r
hull_of Is r each = record {
  low_is = record { attained = (each r.low).0 (record { above = le_refl r.low; below = r.ordered }); least = λ z i. ((each z).1 i).above };
  high_is = record { attained = (each r.high).0 (record { above = r.ordered; below = le_refl r.high }); greatest = λ z i. ((each z).1 i).below };
}

taken : (Has : Point → Type 0) (op : Op) (k : ℕ) (f : Form) (w : Width) (z : ℤ) → nat_lt k (arity_of op) ≡ true → slice_get (arg_widths_of op) k ≡ Some w → (InRange Has f z × HasWidth w z) ↔ InArgument Has op k f z
taken Has op k f w z e g = (
  λ h. subst (λ (b : Bool). InArgumentBy Has b op k f z) (sym e) (h.0, subst (λ (o : Option Width). HasWidthOf o z) (sym g) h.1),
  λ h. let i : InArgumentBy Has true op k f z = subst (λ (b : Bool). InArgumentBy Has b op k f z) e h in (i.0, subst (λ (o : Option Width). HasWidthOf o z) g i.1),
)

pub cut_box : (Has : Point → Type 0) (op : Op) (k : ℕ) (f : Form) (w : Width) (all : Interval) (o : Option Interval) → nat_lt k (arity_of op) ≡ true → slice_get (arg_widths_of op) k ≡ Some w → ((z : ℤ) → Holds all z ↔ HasWidth w z) → IsCut Has f all o → IsArgumentBox Has op k f o
cut_box Has op k f w all None e g n cut = λ z h. let i = (taken Has op k f w z e g).1 h in cut z i.0 ((n z).1 i.1)
cut_box Has op k f w all (Some r) e g n cut =
    let to : (z : ℤ) → Holds r z → InArgument Has op k f z = λ z h. let i = (cut z).0 h in (taken Has op k f w z e g).0 (i.0, (n z).0 i.1) in
    let from : (z : ℤ) → InArgument Has op k f z → Holds r z = λ z h. let i = (taken Has op k f w z e g).1 h in (cut z).1 (i.0, (n z).1 i.1) in (
      hull_of (InArgument Has op k f) r (λ z. (to z, from z)),
      subst (λ (o : Option Width). HasWidthOf o r.low) (sym g) ((n r.low).0 ((cut r.low).0 (record { above = le_refl r.low; below = r.ordered })).1),
      subst (λ (o : Option Width). HasWidthOf o r.high) (sym g) ((n r.high).0 ((cut r.high).0 (record { above = r.ordered; below = le_refl r.high })).1),
    )

zero_fits : (w : Option Width) → HasWidthOf w (pos 0)
zero_fits None = tt
zero_fits (Some W16) = record { above = omega (arith, ints); below = omega (arith, ints) }
zero_fits (Some W32) = record { above = omega (arith, ints); below = omega (arith, ints) }

pub zero_box_of : (Has : Point → Type 0) (op : Op) (k : ℕ) (f : Form) (r : Interval) → nat_lt k (arity_of op) ≡ false → r.low ≡ pos 0 → r.high ≡ pos 0 → IsArgumentBox Has op k f (Some r)
zero_box_of Has op k f r e el eh = (
  hull_of (InArgument Has op k f) r (λ z. (
    λ h. subst (λ (b : Bool). InArgumentBy Has b op k f z) (sym e) (zero_in z h),
    λ h. holds_zero z (subst (λ (b : Bool). InArgumentBy Has b op k f z) e h),
  )),
  subst (λ (z : ℤ). FitsAt op k z) (sym el) (zero_fits (slice_get (arg_widths_of op) k)),
  subst (λ (z : ℤ). FitsAt op k z) (sym eh) (zero_fits (slice_get (arg_widths_of op) k)),
)
  where
    zero_in : (z : ℤ) → Holds r z → z ≡ pos 0
    zero_in z h = omega (arith, ints, el, eh, h.above, h.below)

    holds_zero : (z : ℤ) → z ≡ pos 0 → Holds r z
    holds_zero z q = record { above = omega (arith, ints, el, q); below = omega (arith, ints, eh, q) }

box_fits : (b : Bool) (w : Option Width) (x : Interval) → HasWidthOf w x.low → HasWidthOf w x.high → HasWidthOf w (if b then x else zero_box).low × HasWidthOf w (if b then x else zero_box).high
box_fits true w x h k = (h, k)
box_fits false w x h k = (zero_fits w, zero_fits w)

pub all_boxes : (Has : Point → Type 0) (op : Op) (args : List Form) (x y z : Interval) → IsArgumentBox Has op 0 (form_at args 0) (Some x) → IsArgumentBox Has op 1 (form_at args 1) (Some y) → IsArgumentBox Has op 2 (form_at args 2) (Some z) → AreBoxesOf Has op args (Some (x ∷ y ∷ z ∷ []))
all_boxes Has op args x y z f g h =
    let first = box_fits (nat_lt 0 (arity_of op)) (slice_get (arg_widths_of op) 0) x f.1 f.2 in
    let second = box_fits (nat_lt 1 (arity_of op)) (slice_get (arg_widths_of op) 1) y g.1 g.2 in
    let third = box_fits (nat_lt 2 (arity_of op)) (slice_get (arg_widths_of op) 2) z h.1 h.2 in (
      record { first = f.0; second = g.0; third = h.0 },
      record {
        low_ends = record { first = first.0; second = second.0; third = third.0 };
        high_ends = record { first = first.1; second = second.1; third = third.1 };
      },
    )

pub third_missing : (Has : Point → Type 0) (op : Op) (args : List Form) → IsArgumentBox Has op 2 (form_at args 2) None → AreBoxesOf Has op args None
third_missing Has op args h = λ k. h k.c k.third

pub taken_here : (op : Op) (k : ℕ) → k < arity_of op → nat_lt k (arity_of op) ≡ true
taken_here op k h = grind arith
