-- Points that take numbers from those of another state.
use Rattle.std.proofs.Common.{◌≡◌, ◌≢◌, ℕ, ◌<◌, ◌≤◌, ◌^◌, ℤ, pos, negsuc, ◌+ℤ◌, ◌≤ℤ◌, unsigned_abs, Bool, true, false, List, [], ◌∷◌, length, Option, Some, None, refl, sym, ◌∙◌, ap, subst, arith}
use Rattle.std.specs.Prelude.{slice_index_or, Result, Ok, Err, OnOk}
use Rattle.std.proofs.lemmas.Int.{ints}
use Rattle.wm_numbers.specs.Within.{Within, IsWord32}
use Rattle.wm_numbers.proofs.Order.{le_trans, le_refl}
use Rattle.wm_interval.specs.declared.Interval.{Interval}
use Rattle.wm_interval.specs.Holds.{Holds, IsHullOf}
use Rattle.wm_domain.specs.declared.form.Form.{Form}
use Rattle.wm_domain.specs.declared.shape.Shape.{Shape}
use Rattle.wm_domain.specs.Points.{Point}
use Rattle.wm_domain.specs.Forms.{signed, form_value, IsForm}
use Rattle.wm_domain.specs.States.{IsShape, InShape, IsSized, Keeps, count_of}
use Rattle.wm_domain.specs.Changes.{IsPicked, IsValueOf, Projected}
use Rattle.wm_assign.specs.Giving.{InRange}
use Rattle.wm_given.specs.Parts.{IsCut}
use Rattle.wm_filters.specs.Stays.{Stays}
use Rattle.wm_filters.proofs.Staying.{word_at}
use Rattle.wm_step.specs.Operating.{sum_form}
use Rattle.wm_step.specs.Images.{IsBetween}
use Rattle.wm_left.specs.Taking.{TakenAt, TakenFrom, TakenBoth, IsPickBelow}

pub between_holds : (Has : Point → Type 0) (w : ℕ) (r : Interval) (z : ℤ) → IsHullOf (IsValueOf Has w) r → IsBetween Has w z → Holds r z
between_holds Has w r z h b = record {
  above = le_trans (h.low_is.least (b.x.values w) (record { x = b.x; is = b.x_is; gives = refl })) b.above;
  below = le_trans b.below (h.high_is.greatest (b.y.values w) (record { x = b.y; is = b.y_is; gives = refl }));
}

pub at_between : (Has : Point → Type 0) (v w : ℕ) (pick : Option ℕ) (p : Point) → pick ≡ Some w → TakenAt Has v pick p → IsBetween Has w (p.values v)
at_between Has v w pick p e t =
    let same : p.values v ≡ t.call.values w = subst (λ (o : Option ℕ). IsPicked o t.call (p.values v)) e t.own in
    record {
      x = t.call;
      y = t.call;
      x_is = t.is;
      y_is = t.is;
      above = subst (λ (z : ℤ). t.call.values w ≤ℤ z) (sym same) (le_refl (t.call.values w));
      below = subst (λ (z : ℤ). z ≤ℤ t.call.values w) (sym same) (le_refl (t.call.values w));
    }

pub from_at : (Has : Point → Type 0) (picks : List (Option ℕ)) (v : ℕ) (p : Point) → v < length picks → TakenFrom Has picks p → TakenAt Has v (slice_index_or picks v None) p
from_at Has picks v p h t = record { call = t.call; is = t.is; own = t.own v h }

pub pick_below : (n : ℕ) (o : Option ℕ) → ((w : ℕ) → o ≡ Some w → w < n) → IsPickBelow n o
pick_below n None h = tt
pick_below n (Some w) h = h w refl

pub from_both : (Has : Point → Type 0) (picks : List (Option ℕ)) (v w a b : ℕ) (p : Point) → v < length picks → w < length picks → slice_index_or picks v None ≡ Some a → slice_index_or picks w None ≡ Some b → TakenFrom Has picks p → TakenBoth Has v w a b p
from_both Has picks v w a b p hv hw ev ew t = record {
  call = t.call;
  is = t.is;
  first = subst (λ (o : Option ℕ). IsPicked o t.call (p.values v)) ev (t.own v hv);
  second = subst (λ (o : Option ℕ). IsPicked o t.call (p.values w)) ew (t.own w hw);
}

-- ---- sums of two variables

sum_same : (p q : Point) (v w a b : ℕ) (n : Bool) → p.values v ≡ q.values a → p.values w ≡ q.values b → form_value p.values (sum_form v w n) ≡ form_value q.values (sum_form a b n)
sum_same p q v w a b n e f =
    ap (λ (x : ℤ). (x +ℤ (signed n (p.values w) +ℤ pos 0)) +ℤ pos 0) e ∙ ap (λ (y : ℤ). (q.values a +ℤ (signed n y +ℤ pos 0)) +ℤ pos 0) f

pub sum_is_form : (count v w : ℕ) (n : Bool) (f : Form) → f ≡ sum_form v w n → v < count → w < count → v ≢ w → IsForm count f
sum_is_form count v w n f e hv hw d = subst (IsForm count) (sym e) (record { terms = (hv, hw, d); small = omega arith })

pub sum_plain : (v w : ℕ) (n : Bool) (f : Form) → f ≡ sum_form v w n → f.constant ≡ pos 0
sum_plain v w n f e = ap (λ (g : Form). g.constant) e

value_in : (q : Point) (a b : ℕ) (n : Bool) → IsWord32 (q.values a) → IsWord32 (q.values b) → Within (negsuc 4294967295) (pos 4294967296) (form_value q.values (sum_form a b n))
value_in q a b true h k = record {
  above = omega (arith, ints, h.above, h.below, k.above, k.below);
  below = omega (arith, ints, h.above, h.below, k.above, k.below);
}
value_in q a b false h k = record {
  above = omega (arith, ints, h.above, h.below, k.above, k.below);
  below = omega (arith, ints, h.above, h.below, k.above, k.below);
}

moved_in : (all : Interval) (z : ℤ) → all.low ≡ negsuc 4294967295 → all.high ≡ pos 4294967296 → Within (negsuc 4294967295) (pos 4294967296) z → Holds all z
moved_in all z el eh h = record { above = omega (arith, ints, el, h.above); below = omega (arith, ints, eh, h.below) }

own_range : (Has : Point → Type 0) (f : Form) (q : Point) → Has q → InRange Has f (form_value q.values f)
own_range Has f q h = record { x = q; y = q; x_is = h; y_is = h; above = le_refl _; below = le_refl _ }

-- the value here lies in what the form has there, cut to all that it can be
pub both_in : (Has : Point → Type 0) (shape : Shape) (all : Interval) (there here : Form) (v w a b : ℕ) (n : Bool) (p : Point) → IsShape shape → ((q : Point) → Has q → InShape shape q) → a < count_of shape → b < count_of shape
    → all.low ≡ negsuc 4294967295 → all.high ≡ pos 4294967296 → there ≡ sum_form a b n → TakenBoth Has v w a b p
    → (z : ℤ) × (InRange Has there z × Holds all z) × (form_value p.values (sum_form v w n) ≡ z)
both_in Has shape all there here v w a b n p s inside ha hb el eh et t =
    let q = t.call in
    let i = inside q t.is in (
      form_value q.values (sum_form a b n),
      (
        subst (λ (f : Form). InRange Has f (form_value q.values (sum_form a b n))) (sym et) (own_range Has (sum_form a b n) q t.is),
        moved_in all (form_value q.values (sum_form a b n)) el eh (value_in q a b n (word_at shape q a s i ha) (word_at shape q b s i hb)),
      ),
      sum_same p q v w a b n t.first t.second,
    )

pub none_both : (Has : Point → Type 0) (shape : Shape) (all : Interval) (there : Form) (v w a b : ℕ) (n : Bool) (p : Point) → IsShape shape → ((q : Point) → Has q → InShape shape q) → a < count_of shape → b < count_of shape
    → all.low ≡ negsuc 4294967295 → all.high ≡ pos 4294967296 → there ≡ sum_form a b n → IsCut Has there all None → TakenBoth Has v w a b p → ⊥
none_both Has shape all there v w a b n p s inside ha hb el eh et cut t =
    let k = both_in Has shape all there there v w a b n p s inside ha hb el eh et t in
    cut k.0 k.1.0 k.1.1

pub some_both : (Has : Point → Type 0) (shape : Shape) (all r : Interval) (there here : Form) (v w a b : ℕ) (n : Bool) (p : Point) → IsShape shape → ((q : Point) → Has q → InShape shape q) → a < count_of shape → b < count_of shape
    → all.low ≡ negsuc 4294967295 → all.high ≡ pos 4294967296 → there ≡ sum_form a b n → here ≡ sum_form v w n → IsCut Has there all (Some r) → TakenBoth Has v w a b p → Holds r (form_value p.values here)
some_both Has shape all r there here v w a b n p s inside ha hb el eh et eh2 cut t =
    let k = both_in Has shape all there here v w a b n p s inside ha hb el eh et t in
    subst (λ (f : Form). Holds r (form_value p.values f)) (sym eh2)
    (subst (Holds r) (sym k.2) ((cut k.0).1 k.1))

small : (all : Interval) (z : ℤ) → all.low ≡ negsuc 4294967295 → all.high ≡ pos 4294967296 → Holds all z → unsigned_abs z < 2 ^ 50
small all z el eh h = omega (arith, ints, el, eh, h.above, h.below)

pub cut_sized : (Has : Point → Type 0) (f : Form) (all r : Interval) → all.low ≡ negsuc 4294967295 → all.high ≡ pos 4294967296 → IsCut Has f all (Some r) → IsSized r
cut_sized Has f all r el eh cut = record {
  low_size = small all r.low el eh ((cut r.low).0 (record { above = le_refl r.low; below = r.ordered })).1;
  high_size = small all r.high el eh ((cut r.high).0 (record { above = r.ordered; below = le_refl r.high })).1;
}

pub on_ok_map : {A E : Type 0} (r : Result A E) (P Q : Type 0) → (P → Q) → OnOk r P → OnOk r Q
on_ok_map (Ok x) P Q f h = f h
on_ok_map (Err e) P Q f h = tt
