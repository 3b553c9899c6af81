-- Points at which a sum counter goes with the counter of its loop, from what is tested of them, and the other way.
use Rattle.std.proofs.Common.{◌≡◌, ℕ, ◌<◌, ℤ, pos, negsuc, neg_ℤ, ◌*ℤ◌, ◌≤ℤ◌, ◌<ℤ◌, Bool, false, sym, subst, arith}
use Rattle.std.specs.Int.{int_div_euclid, int_min}
use Rattle.std.proofs.lemmas.Int.{ints}
use Rattle.wm_numbers.specs.Within.{IsWord32}
use Rattle.wm_numbers.proofs.Extremes.{least_once, greatest_once}
use Rattle.wm_interval.specs.declared.Interval.{Interval}
use Rattle.wm_interval.specs.Holds.{IsHullOf}
use Rattle.wm_domain.specs.declared.form.Form.{Form}
use Rattle.wm_domain.specs.declared.shape.Shape.{Shape}
use Rattle.wm_domain.specs.Points.{Point}
use Rattle.wm_domain.specs.Forms.{form_value, AreBounded}
use Rattle.wm_domain.specs.States.{count_of, IsShape, InShape, Keeps, IsLeast}
use Rattle.wm_domain.specs.Changes.{IsValueOf}
use Rattle.wm_tested.specs.Likes.{variable_form, Below, Above}
use Rattle.wm_filters.proofs.Staying.{word_at}
use Rattle.wm_step.specs.Images.{most}
use Rattle.wm_paced.specs.Pacing.{IsAbove, IsBelow, Paced, TiedAt}
use Rattle.wm_paced.proofs.Rounding.{to_least, from_least, to_most, from_most}

pub bounded_one : (pairs : Bool) (n v : ℕ) (b : Bool) (c : ℤ) (f : Form) → f ≡ variable_form v b c → AreBounded pairs n f.terms
bounded_one pairs n v b c f e = subst (λ (x : Form). AreBounded pairs n x.terms) (sym e) tt

-- an end of a variable's range has 32 bits
pub value_word : (Has : Point → Type 0) (shape : Shape) (v : ℕ) (z : ℤ) → IsShape shape → ((q : Point) → Has q → InShape shape q) → v < count_of shape → IsValueOf Has v z → IsWord32 z
value_word Has shape v z s inside h k = subst IsWord32 k.gives (word_at shape k.x v s (inside k.x k.is) h)

pub less_not : (z : ℤ) → z <ℤ most → z ≡ most → ⊥
less_not z h e = omega (arith, ints, h, e)

module _ (Has : Point → Type 0) (v loop_step step : ℕ) (f : Form) (x r : ℤ) (p : Point) (ef : f ≡ variable_form v false (pos 0)) (same : negsuc 2147483648 ≤ℤ x → r ≡ x) (past : x <ℤ negsuc 2147483648 → r ≡ negsuc 2147483648) where
  pub above_of : (low : ℤ) → x ≡ int_min most (pos step *ℤ neg_ℤ (int_div_euclid (neg_ℤ low) (pos loop_step))) → IsWord32 (p.values v) → IsAbove Has v loop_step step low p → Above Has f r p
  above_of low e w h = record {
    point = h.point;
    above = subst (λ (g : Form). r ≤ℤ form_value p.values g) (sym ef) (to_least x r (p.values v) same past w (subst (λ (y : ℤ). y ≤ℤ p.values v) (sym e) h.above));
  }

  pub above_from : (low : ℤ) → x ≡ int_min most (pos step *ℤ neg_ℤ (int_div_euclid (neg_ℤ low) (pos loop_step))) → Above Has f r p → IsAbove Has v loop_step step low p
  above_from low e h = record {
    point = h.point;
    above = subst (λ (y : ℤ). y ≤ℤ p.values v) e (from_least x r (p.values v) same past (subst (λ (g : Form). r ≤ℤ form_value p.values g) ef h.above));
  }

  pub below_of : (high : ℤ) → x ≡ int_min most (pos step *ℤ int_div_euclid high (pos loop_step)) → IsWord32 (p.values v) → IsBelow Has v loop_step step high p → Below Has f r p
  below_of high e w h = record {
    point = h.point;
    below = subst (λ (g : Form). form_value p.values g ≤ℤ r) (sym ef) (to_most x r (p.values v) same past w (subst (λ (y : ℤ). p.values v ≤ℤ y) (sym e) h.below));
  }

  pub below_from : (high : ℤ) → x ≡ int_min most (pos step *ℤ int_div_euclid high (pos loop_step)) → IsWord32 (p.values v) → Below Has f r p → IsBelow Has v loop_step step high p
  below_from high e w h = record {
    point = h.point;
    below = subst (λ (y : ℤ). p.values v ≤ℤ y) e (from_most x r (p.values v) same past w (subst (λ (g : Form). form_value p.values g ≤ℤ r) ef h.below));
  }

pub tied_of : (Has : Point → Type 0) (counter v loop_step step : ℕ) (r : Interval) (p : Point) → IsHullOf (IsValueOf Has counter) r → Paced Has v loop_step step r.low r.high p → TiedAt Has counter loop_step v step p
tied_of Has counter v loop_step step r p hull k = record {
  point = k.point;
  above = λ l e. subst (λ (x : ℤ). int_min most (pos step *ℤ neg_ℤ (int_div_euclid (neg_ℤ x) (pos loop_step))) ≤ℤ p.values v) (least_once hull.low_is e) k.above;
  below = λ h e lt.
      let same : r.high ≡ h = greatest_once hull.high_is e in
      subst (λ (x : ℤ). p.values v ≤ℤ int_min most (pos step *ℤ int_div_euclid x (pos loop_step))) same (k.below (subst (λ (x : ℤ). x <ℤ most) (sym same) lt));
}

-- a state whose points are wanted is the least that keeps the wanted ones
pub made_least : {S : Type 0} (holds : S → Point → Type 0) (shape_of : S → Shape) (s : S) (P : Point → Type 0) → ((p : Point) → holds s p → InShape (shape_of s) p) → ((p : Point) → holds s p → P p) → IsLeast holds shape_of s P
made_least holds shape_of s P inside made = record { least = λ t e k p h. k.kept p (subst (λ (x : Shape). InShape x p) (sym e) (inside p h)) (made p h) }
