-- What is told of forms and of their ranges.
use Rattle.std.proofs.Common.{◌≡◌, ◌<◌, ◌^◌, ℕ, ℤ, pos, negsuc, ◌≤ℤ◌, ◌<ℤ◌, ◌⊎◌, inl, inr, Bool, true, false, List, [], ◌∷◌, Option, Some, None, arith, sym, subst, refl}
use Rattle.std.proofs.lemmas.Int.{ints}
use Rattle.std.proofs.lemmas.Bool.Decides.{nat_tests}
use Rattle.std.specs.Prelude.{◌↔◌, unsigned_abs, MatchOption}
use Rattle.wm_numbers.proofs.Order.{le_trans}
use Rattle.wm_numbers.specs.Within.{Within}
use Rattle.wm_interval.specs.declared.Interval.{Interval}
use Rattle.wm_interval.specs.Holds.{Holds, InBoth, IsHullOf}
use Rattle.wm_domain.specs.Points.{Point}
use Rattle.wm_domain.specs.Forms.{IsForm, AreTerms, form_value}
use Rattle.wm_domain.specs.Changes.{IsFormValue}
use Rattle.wm_domain.specs.States.{IsBare}
use Rattle.wm_domain.specs.declared.form.Form.{Form}
use Rattle.wm_domain.specs.declared.form.Term.{Term}
use Rattle.wm_sight.specs.Operands.{are_terms, Misses, Boxes}
use Rattle.wm_sight.specs.Ranges.{IsCut, IsBox, HasNoBox, Stays}

terms_shown : (n : ℕ) (ts : List Term) → are_terms n ts ≡ true → AreTerms n ts
terms_shown n [] e = tt
terms_shown n (t ∷ []) e = grind (arith, nat_tests)
terms_shown n (t ∷ u ∷ []) e = grind (arith, nat_tests)
terms_shown n (t ∷ u ∷ v ∷ rest) e = cc

small_shown : (z : ℤ) → negsuc 1125899906842623 <ℤ z → z <ℤ pos 1125899906842624 → unsigned_abs z < 2 ^ 50
small_shown z h k = omega (arith, ints)

-- ---- ranges

value_in : (Has : Point → Type 0) (form : Form) (range : Interval) → IsHullOf (IsFormValue Has form) range → (p : Point) → Has p → Holds range (form_value p.values form)
value_in Has form range h p k =
    let v : IsFormValue Has form (form_value p.values form) = record { x = p; is = k; gives = refl } in
    record { above = h.low_is.least (form_value p.values form) v; below = h.high_is.greatest (form_value p.values form) v }

pub bare_misses : (Has : Point → Type 0) (form : Form) (low high : ℤ) → IsBare Has → Misses Has form low high
bare_misses Has form low high h p k w = h p k

pub cut_misses : (Has : Point → Type 0) (form : Form) (low high : ℤ) (range other : Interval) → IsHullOf (IsFormValue Has form) range → other.low ≡ low → other.high ≡ high
    → ((z : ℤ) → InBoth range other z → ⊥) → Misses Has form low high
cut_misses Has form low high range other h e f none p k w =
    none (form_value p.values form) (value_in Has form range h p k, record { above = subst (λ x. x ≤ℤ form_value p.values form) (sym e) w.above; below = subst (λ x. form_value p.values form ≤ℤ x) (sym f) w.below })

pub cut_boxes : (Has : Point → Type 0) (form : Form) (low high : ℤ) (range other box : Interval) → IsHullOf (IsFormValue Has form) range → other.low ≡ low → other.high ≡ high
    → ((z : ℤ) → Holds box z ↔ InBoth range other z) → IsHullOf (InBoth range other) box → Boxes Has form low high box
cut_boxes Has form low high range other box h e f each hull =
    let l = hull.low_is.attained.1 in
    let u = hull.high_is.attained.1 in
    record {
      low_in = record { above = subst (λ x. x ≤ℤ box.low) e l.above; below = subst (λ x. box.low ≤ℤ x) f l.below };
      high_in = record { above = subst (λ x. x ≤ℤ box.high) e u.above; below = subst (λ x. box.high ≤ℤ x) f u.below };
      values = λ p k w. (each (form_value p.values form)).1 (value_in Has form range h p k, record { above = subst (λ x. x ≤ℤ form_value p.values form) (sym e) w.above; below = subst (λ x. form_value p.values form ≤ℤ x) (sym f) w.below });
    }

pub form_shown : (n : ℕ) (f : Form) → negsuc 1125899906842623 <ℤ f.constant → f.constant <ℤ pos 1125899906842624 → are_terms n f.terms ≡ true → IsForm n f
form_shown n f h k e = record { terms = terms_shown n f.terms e; small = small_shown f.constant h k }

pub cut_told : (Has : Point → Type 0) (form : Form) (low high : ℤ) (range other : Interval) (r : Option Interval) → IsHullOf (IsFormValue Has form) range → other.low ≡ low → other.high ≡ high
    → MatchOption r ((z : ℤ) → InBoth range other z → ⊥) (λ b. IsHullOf (InBoth range other) b) → MatchOption r (Unit {0}) (λ b. (z : ℤ) → Holds b z ↔ InBoth range other z)
    → MatchOption r (Misses Has form low high) (Boxes Has form low high)
cut_told Has form low high range other None h e f common each = cut_misses Has form low high range other h e f common
cut_told Has form low high range other (Some b) h e f common each = cut_boxes Has form low high range other b h e f each common

pub stays_shown : (Has : Point → Type 0) (form : Form) (low high : ℤ) (range : Interval) → IsHullOf (IsFormValue Has form) range → low ≤ℤ range.low → range.high ≤ℤ high
    → (p : Point) → Has p → Within low high (form_value p.values form)
stays_shown Has form low high range h l u p k =
    let w = value_in Has form range h p k in
    record { above = le_trans l w.above; below = le_trans w.below u }

-- ---- exact boxes

pub bare_no_box : (Has : Point → Type 0) (form : Form) (low high : ℤ) → IsBare Has → HasNoBox Has form low high
bare_no_box Has form low high h range is z c = h is.low_is.attained.x is.low_is.attained.is

same_low : (Is : ℤ → Type 0) (a b : Interval) → IsHullOf Is a → IsHullOf Is b → a.low ≤ℤ b.low
same_low Is a b h k = h.low_is.least b.low k.low_is.attained

same_high : (Is : ℤ → Type 0) (a b : Interval) → IsHullOf Is a → IsHullOf Is b → b.high ≤ℤ a.high
same_high Is a b h k = h.high_is.greatest b.high k.high_is.attained

-- a number of one range of the form is one of the other
pub same_range : (Is : ℤ → Type 0) (a b : Interval) (z : ℤ) → IsHullOf Is a → IsHullOf Is b → Holds a z → Holds b z
same_range Is a b z h k w =
    record { above = le_trans (same_low Is b a k h) w.above; below = le_trans w.below (same_high Is b a k h) }

in_both : (range other : Interval) (low high : ℤ) (z : ℤ) → other.low ≡ low → other.high ≡ high → IsCut range low high z → InBoth range other z
in_both range other low high z e f (h, w) =
    (h, record { above = subst (λ x. x ≤ℤ z) (sym e) w.above; below = subst (λ x. z ≤ℤ x) (sym f) w.below })

out_both : (range other : Interval) (low high : ℤ) (z : ℤ) → other.low ≡ low → other.high ≡ high → InBoth range other z → IsCut range low high z
out_both range other low high z e f (h, w) =
    (h, record { above = subst (λ x. x ≤ℤ z) e w.above; below = subst (λ x. z ≤ℤ x) f w.below })

pub box_told : (Has : Point → Type 0) (form : Form) (low high : ℤ) (range other : Interval) (r : Option Interval) → IsHullOf (IsFormValue Has form) range → other.low ≡ low → other.high ≡ high
    → MatchOption r ((z : ℤ) → InBoth range other z → ⊥) (λ b. IsHullOf (InBoth range other) b)
    → MatchOption r (HasNoBox Has form low high) (IsBox Has form low high)
box_told Has form low high range other None h e f none =
    λ another is z c. none z (in_both range other low high z e f (same_range (IsFormValue Has form) another range z is h c.0, c.1))
box_told Has form low high range other (Some b) h e f hull =
    record {
      range = range;
      is = h;
      cut = record {
        low_is = record { attained = out_both range other low high b.low e f hull.low_is.attained; least = λ z c. hull.low_is.least z (in_both range other low high z e f c) };
        high_is = record { attained = out_both range other low high b.high e f hull.high_is.attained; greatest = λ z c. hull.high_is.greatest z (in_both range other low high z e f c) };
      };
    }

pub bare_stays : (Has : Point → Type 0) (form : Form) (low high : ℤ) → IsBare Has → Stays Has form low high
bare_stays Has form low high h p k = absurd (h p k)

low_apart : (x low high : ℤ) → x <ℤ low → Within low high x → ⊥
low_apart x low high h w = omega (arith, ints)

high_apart : (x low high : ℤ) → high <ℤ x → Within low high x → ⊥
high_apart x low high h w = omega (arith, ints)

pub stays_refuted : (Has : Point → Type 0) (form : Form) (low high : ℤ) (range : Interval) → IsHullOf (IsFormValue Has form) range → (range.low <ℤ low) ⊎ (high <ℤ range.high)
    → Stays Has form low high → ⊥
stays_refuted Has form low high range is (inl h) s =
    let at = is.low_is.attained in
    low_apart range.low low high h (subst (λ z. Within low high z) at.gives (s at.x at.is))
stays_refuted Has form low high range is (inr h) s =
    let at = is.high_is.attained in
    high_apart range.high low high h (subst (λ z. Within low high z) at.gives (s at.x at.is))

pub stays_exact : (Has : Point → Type 0) (form : Form) (low high : ℤ) (range : Interval) (r : Bool) → IsHullOf (IsFormValue Has form) range
    → (r ≡ true → (low ≤ℤ range.low) × (range.high ≤ℤ high)) → (r ≡ false → (range.low <ℤ low) ⊎ (high <ℤ range.high))
    → (r ≡ true) ↔ Stays Has form low high
stays_exact Has form low high range true is inside outside =
    (λ e p k. stays_shown Has form low high range is (inside refl).0 (inside refl).1 p k, λ s. refl)
stays_exact Has form low high range false is inside outside =
    (λ e. cc, λ s. absurd (stays_refuted Has form low high range is (outside refl) s))
