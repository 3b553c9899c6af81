-- The values of forms that are like others.
use Rattle.std.proofs.Common.{◌≡◌, ◌≢◌, ℕ, ◌<◌, ◌^◌, ℤ, pos, neg_ℤ, ◌+ℤ◌, ◌-ℤ◌, ◌≤ℤ◌, unsigned_abs, Bool, true, false, not, List, [], ◌∷◌, map, refl, sym, ◌∙◌, ap, subst, arith}
use Rattle.std.proofs.lemmas.Int.{ints}
use Rattle.wm_domain.specs.declared.form.Term.{Term}
use Rattle.wm_domain.specs.declared.form.Form.{Form}
use Rattle.wm_domain.specs.declared.form.Relation.TheVariants.{AtMost}
use Rattle.wm_domain.specs.Points.{Point}
use Rattle.wm_domain.specs.Forms.{signed, term_value, terms_value, form_value, AreTerms, IsForm, AreBounded}
use Rattle.wm_domain.specs.States.{Keeps, IsLeast, InShape}
use Rattle.wm_domain.specs.declared.shape.Shape.{Shape}
use Rattle.wm_domain.specs.Changes.{Kept}
use Rattle.wm_carry.proofs.Reaching.{least_as}
use Rattle.wm_tested.specs.Likes.{turned, like, Below, Above, Between}

are_turned : (n : ℕ) (b : Bool) (ts : List Term) → AreTerms n ts → AreTerms n (map (turned b) ts)
are_turned n b [] h = tt
are_turned n true (t ∷ []) h = h
are_turned n false (t ∷ []) h = h
are_turned n true (t ∷ u ∷ []) h = h
are_turned n false (t ∷ u ∷ []) h = h
are_turned n b (t ∷ u ∷ v ∷ rest) h = absurd h

pub is_like : (n : ℕ) (b : Bool) (f : Form) (c : ℤ) → IsForm n f → unsigned_abs c < 2 ^ 50 → IsForm n (like f b c)
is_like n b f c h k = record { terms = are_turned n b f.terms h.terms; small = k }

sign_turned : (b : Bool) (z : ℤ) → signed (not b) z ≡ neg_ℤ (signed b z)
sign_turned true z = omega (arith, ints)
sign_turned false z = refl

sum_negative : (a b c d : ℤ) → a ≡ neg_ℤ c → b ≡ neg_ℤ d → (a +ℤ b) ≡ neg_ℤ (c +ℤ d)
sum_negative a b c d e f = omega (arith, ints)

negatives : (x : ℕ → ℤ) (ts : List Term) → terms_value x (map (turned true) ts) ≡ neg_ℤ (terms_value x ts)
negatives x [] = refl
negatives x (t ∷ rest) = sum_negative (signed (not t.negative) (x t.variable)) (terms_value x (map (turned true) rest)) (signed t.negative (x t.variable)) (terms_value x rest) (sign_turned t.negative (x t.variable)) (negatives x rest)

sames : (x : ℕ → ℤ) (ts : List Term) → terms_value x (map (turned false) ts) ≡ terms_value x ts
sames x [] = refl
sames x (t ∷ rest) = ap (λ (z : ℤ). signed t.negative (x t.variable) +ℤ z) (sames x rest)

at_most : (s t c high : ℤ) → s ≡ t → (t +ℤ c) ≤ℤ high → (s +ℤ (c -ℤ high)) ≤ℤ pos 0
at_most s t c high e h = omega (arith, ints)

at_least : (s t c low : ℤ) → s ≡ neg_ℤ t → low ≤ℤ (t +ℤ c) → (s +ℤ (low -ℤ c)) ≤ℤ pos 0
at_least s t c low e h = omega (arith, ints)

pub below_kept : (Has : Point → Type 0) (f : Form) (high : ℤ) (p : Point) → Below Has f high p → Kept Has (like f false (f.constant -ℤ high)) AtMost p
below_kept Has f high p h = record { point = h.point; meets = at_most (terms_value p.values (map (turned false) f.terms)) (terms_value p.values f.terms) f.constant high (sames p.values f.terms) h.below }

pub above_kept : (Has : Point → Type 0) (f : Form) (low : ℤ) (p : Point) → Above Has f low p → Kept Has (like f true (low -ℤ f.constant)) AtMost p
above_kept Has f low p h = record { point = h.point; meets = at_least (terms_value p.values (map (turned true) f.terms)) (terms_value p.values f.terms) f.constant low (negatives p.values f.terms) h.above }

-- ---- states

pub keeps_below : {S : Type 0} (Holds : S → Point → Type 0) (shape_of : S → Shape) (state : S) (Has : Point → Type 0) (f g : Form) (high x : ℤ) → x ≡ f.constant -ℤ high → g ≡ like f false x → Keeps Holds shape_of state (Kept Has g AtMost) → Keeps Holds shape_of state (Below Has f high)
keeps_below Holds shape_of state Has f g high x d e k = record { kept = λ p i h. k.kept p i (subst (λ (y : Form). Kept Has y AtMost p) (sym (e ∙ ap (like f false) d)) (below_kept Has f high p h)) }

pub keeps_above : {S : Type 0} (Holds : S → Point → Type 0) (shape_of : S → Shape) (state : S) (Has : Point → Type 0) (f g : Form) (low x : ℤ) → x ≡ low -ℤ f.constant → g ≡ like f true x → Keeps Holds shape_of state (Kept Has g AtMost) → Keeps Holds shape_of state (Above Has f low)
keeps_above Holds shape_of state Has f g low x d e k = record { kept = λ p i h. k.kept p i (subst (λ (y : Form). Kept Has y AtMost p) (sym (e ∙ ap (like f true) d)) (above_kept Has f low p h)) }

pub keeps_between : {S : Type 0} (Holds : S → Point → Type 0) (shape_of : S → Shape) (middle state : S) (Has : Point → Type 0) (f : Form) (low high : ℤ) → shape_of state ≡ shape_of middle → Keeps Holds shape_of middle (Above Has f low) → Keeps Holds shape_of state (Below (Holds middle) f high) → Keeps Holds shape_of state (Between Has f low high)
keeps_between Holds shape_of middle state Has f low high e a b = record {
  kept = λ p i h. b.kept p i (record { point = a.kept p (subst (λ (s : Shape). InShape s p) e i) (record { point = h.point; above = h.above }); below = h.below });
}

-- ---- the other way

from_at_most : (s t c high : ℤ) → s ≡ t → (s +ℤ (c -ℤ high)) ≤ℤ pos 0 → (t +ℤ c) ≤ℤ high
from_at_most s t c high e h = omega (arith, ints)

from_at_least : (s t c low : ℤ) → s ≡ neg_ℤ t → (s +ℤ (low -ℤ c)) ≤ℤ pos 0 → low ≤ℤ (t +ℤ c)
from_at_least s t c low e h = omega (arith, ints)

kept_below : (Has : Point → Type 0) (f g : Form) (high x : ℤ) (p : Point) → x ≡ f.constant -ℤ high → g ≡ like f false x → Kept Has g AtMost p → Below Has f high p
kept_below Has f g high x p d e k =
    let h = subst (λ (y : Form). Kept Has y AtMost p) (e ∙ ap (like f false) d) k in
    record { point = h.point; below = from_at_most (terms_value p.values (map (turned false) f.terms)) (terms_value p.values f.terms) f.constant high (sames p.values f.terms) h.meets }

kept_above : (Has : Point → Type 0) (f g : Form) (low x : ℤ) (p : Point) → x ≡ low -ℤ f.constant → g ≡ like f true x → Kept Has g AtMost p → Above Has f low p
kept_above Has f g low x p d e k =
    let h = subst (λ (y : Form). Kept Has y AtMost p) (e ∙ ap (like f true) d) k in
    record { point = h.point; above = from_at_least (terms_value p.values (map (turned true) f.terms)) (terms_value p.values f.terms) f.constant low (negatives p.values f.terms) h.meets }

turned_same : (b : Bool) (n : ℕ) (t : Term) → t.variable < n → (turned b t).variable < n
turned_same true n t h = h
turned_same false n t h = h

are_bounded : (pairs b : Bool) (n : ℕ) (ts : List Term) → AreBounded pairs n ts → AreBounded pairs n (map (turned b) ts)
are_bounded pairs b n [] h = tt
are_bounded pairs b n (t ∷ []) h = tt
are_bounded pairs b n (t ∷ u ∷ rest) h = (h.0, turned_same b n t h.1, turned_same b n u h.2)

like_bounded : (pairs b : Bool) (n : ℕ) (f g : Form) (x : ℤ) → g ≡ like f b x → AreBounded pairs n f.terms → AreBounded pairs n g.terms
like_bounded pairs b n f g x e h = subst (λ (y : Form). AreBounded pairs n y.terms) (sym e) (are_bounded pairs b n f.terms h)

pub least_below : {S : Type 0} (Holds : S → Point → Type 0) (shape_of : S → Shape) (state : S) (Has : Point → Type 0) (f g : Form) (high x : ℤ) → x ≡ f.constant -ℤ high → g ≡ like f false x → IsLeast Holds shape_of state (Kept Has g AtMost) → IsLeast Holds shape_of state (Below Has f high)
least_below Holds shape_of state Has f g high x d e l = least_as Holds shape_of state (Kept Has g AtMost) (Below Has f high) (λ p i k. kept_below Has f g high x p d e k) l

pub least_above : {S : Type 0} (Holds : S → Point → Type 0) (shape_of : S → Shape) (state : S) (Has : Point → Type 0) (f g : Form) (low x : ℤ) → x ≡ low -ℤ f.constant → g ≡ like f true x → IsLeast Holds shape_of state (Kept Has g AtMost) → IsLeast Holds shape_of state (Above Has f low)
least_above Holds shape_of state Has f g low x d e l = least_as Holds shape_of state (Kept Has g AtMost) (Above Has f low) (λ p i k. kept_above Has f g low x p d e k) l

pub made_below : (New Has : Point → Type 0) (pairs : Bool) (n : ℕ) (f g : Form) (high x : ℤ) → x ≡ f.constant -ℤ high → g ≡ like f false x → (AreBounded pairs n g.terms → (p : Point) → New p → Kept Has g AtMost p) → AreBounded pairs n f.terms → (p : Point) → New p → Below Has f high p
made_below New Has pairs n f g high x d e made b p h = kept_below Has f g high x p d e (made (like_bounded pairs false n f g x e b) p h)

pub made_above : (New Has : Point → Type 0) (pairs : Bool) (n : ℕ) (f g : Form) (low x : ℤ) → x ≡ low -ℤ f.constant → g ≡ like f true x → (AreBounded pairs n g.terms → (p : Point) → New p → Kept Has g AtMost p) → AreBounded pairs n f.terms → (p : Point) → New p → Above Has f low p
made_above New Has pairs n f g low x d e made b p h = kept_above Has f g low x p d e (made (like_bounded pairs true n f g x e b) p h)
