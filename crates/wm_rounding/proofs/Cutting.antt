-- Cuts one after another, and cuts by a form.
use Rattle.std.proofs.Common.{◌≡◌, ◌≢◌, inl, inr, ap, subst, sym, refl, ℕ, ◌+◌, ◌<◌, ◌^◌, ℤ, pos, neg_ℤ, ◌+ℤ◌, ◌≤ℤ◌, unsigned_abs, Bool, true, false, not, List, [], ◌∷◌, map, arith}
use Rattle.std.specs.Prelude.{Result, Ok, Err, OnOk}
use Rattle.std.proofs.lemmas.Int.{ints}
use Rattle.std.proofs.lemmas.Bool.{cases_eq}
use Rattle.wm_domain.specs.Points.{Point}
use Rattle.wm_domain.specs.Forms.{signed, terms_value, form_value, AreTerms, IsForm, AreBounded}
use Rattle.wm_domain.specs.Changes.{Kept}
use Rattle.wm_domain.specs.States.{InShape}
use Rattle.wm_domain.specs.declared.form.Form.{Form}
use Rattle.wm_domain.specs.declared.form.Term.{Term}
use Rattle.wm_domain.specs.declared.form.Relation.TheVariants.{AtMost}
use Rattle.wm_domain.specs.declared.shape.Shape.{Shape}
use Rattle.wm_tested.specs.Likes.{turned, like}
use Rattle.wm_rounding.specs.Cuts.{Cut}

pub on_ok_map : {A E : Type 0} (r : Result A E) (P Q : Type 0) → (P → Q) → OnOk r P → OnOk r Q
on_ok_map (Ok x) P Q f h = f h
on_ok_map (Err e) P Q f h = tt

pub cut_same : (A : Point → Type 0) (F : Point → Type 0) → ((p : Point) → F p) → Cut A A F
cut_same A F h = record { fewer = λ p a. a; meets = λ p a. h p; kept = λ p a f. a }

pub cut_both : {A B C F G : Point → Type 0} → Cut A B F → Cut B C G → Cut A C (λ p. F p × G p)
cut_both h k = record {
  fewer = λ p c. h.fewer p (k.fewer p c);
  meets = λ p c. (h.meets p (k.fewer p c), k.meets p c);
  kept = λ p a f. k.kept p (h.kept p a f.0) f.1;
}

pub cut_as : {A B F G : Point → Type 0} → ((p : Point) → F p → G p) → ((p : Point) → G p → F p) → Cut A B F → Cut A B G
cut_as to from h = record {
  fewer = h.fewer;
  meets = λ p b. to p (h.meets p b);
  kept = λ p a g. h.kept p a (from p g);
}

-- what a domain says of a test
pub cut_kept : (Old New : Point → Type 0) (shape : Shape) (f : Form) → ((p : Point) → Old p → InShape shape p) → ((p : Point) → New p → Old p)
    → ((p : Point) → New p → Kept Old f AtMost p) → ((p : Point) → InShape shape p → Kept Old f AtMost p → New p)
    → Cut Old New (λ p. form_value p.values f ≤ℤ pos 0)
cut_kept Old New shape f inside fewer made sound = record {
  fewer = fewer;
  meets = λ p h. (made p h).meets;
  kept = λ p h m. sound p (inside p h) (record { point = h; meets = m });
}

-- ---- forms that are like others

are_bounded : (pairs : Bool) (n : ℕ) (b : Bool) (ts : List Term) → AreBounded pairs n ts → AreBounded pairs n (map (turned b) ts)
are_bounded pairs n b [] h = tt
are_bounded pairs n b (t ∷ []) h = tt
are_bounded pairs n true (t ∷ u ∷ rest) h = h
are_bounded pairs n false (t ∷ u ∷ rest) h = h

pub bounded_like : (pairs : Bool) (n : ℕ) (b : Bool) (f g : Form) (c : ℤ) → g ≡ like f b c → AreBounded pairs n f.terms → AreBounded pairs n g.terms
bounded_like pairs n b f g c e h = subst (λ (x : Form). AreBounded pairs n x.terms) (sym e) (are_bounded pairs n b f.terms h)

are_turned : (n : ℕ) (b : Bool) (ts : List Term) → AreTerms n ts → AreTerms n (map (turned b) ts)
are_turned n b [] h = tt
are_turned n true (t ∷ []) h = h
are_turned n false (t ∷ []) h = h
are_turned n true (t ∷ u ∷ []) h = h
are_turned n false (t ∷ u ∷ []) h = h
are_turned n b (t ∷ u ∷ v ∷ rest) h = absurd h

pub form_like : (n : ℕ) (b : Bool) (f g : Form) (c : ℤ) → g ≡ like f b c → IsForm n f → unsigned_abs c < 2 ^ 50 → IsForm n g
form_like n b f g c e h k = subst (IsForm n) (sym e) (record { terms = are_turned n b f.terms h.terms; small = k })

sign_turned : (b : Bool) (z : ℤ) → signed (not b) z ≡ neg_ℤ (signed b z)
sign_turned true z = omega (arith, ints)
sign_turned false z = refl

sum_negative : (a b c d : ℤ) → a ≡ neg_ℤ c → b ≡ neg_ℤ d → (a +ℤ b) ≡ neg_ℤ (c +ℤ d)
sum_negative a b c d e f = omega (arith, ints)

negatives : (x : ℕ → ℤ) (ts : List Term) → terms_value x (map (turned true) ts) ≡ neg_ℤ (terms_value x ts)
negatives x [] = refl
negatives x (t ∷ rest) = sum_negative (signed (not t.negative) (x t.variable)) (terms_value x (map (turned true) rest)) (signed t.negative (x t.variable)) (terms_value x rest) (sign_turned t.negative (x t.variable)) (negatives x rest)

sames : (x : ℕ → ℤ) (ts : List Term) → terms_value x (map (turned false) ts) ≡ terms_value x ts
sames x [] = refl
sames x (t ∷ rest) = ap (λ (z : ℤ). signed t.negative (x t.variable) +ℤ z) (sames x rest)

to_low : (s t c low : ℤ) → s ≡ neg_ℤ t → c ≡ pos 0 → (s +ℤ low) ≤ℤ pos 0 → low ≤ℤ (t +ℤ c)
to_low s t c low e f h = omega (arith, ints)

of_low : (s t c low : ℤ) → s ≡ neg_ℤ t → c ≡ pos 0 → low ≤ℤ (t +ℤ c) → (s +ℤ low) ≤ℤ pos 0
of_low s t c low e f h = omega (arith, ints)

to_high : (s t c high : ℤ) → s ≡ t → c ≡ pos 0 → (s +ℤ neg_ℤ high) ≤ℤ pos 0 → (t +ℤ c) ≤ℤ high
to_high s t c high e f h = omega (arith, ints)

of_high : (s t c high : ℤ) → s ≡ t → c ≡ pos 0 → (t +ℤ c) ≤ℤ high → (s +ℤ neg_ℤ high) ≤ℤ pos 0
of_high s t c high e f h = omega (arith, ints)

pub low_cut : (A B : Point → Type 0) (f g : Form) (low : ℤ) → g ≡ like f true low → f.constant ≡ pos 0 → Cut A B (λ p. form_value p.values g ≤ℤ pos 0) → Cut A B (λ p. low ≤ℤ form_value p.values f)
low_cut A B f g low e z h =
    cut_as {F = λ p. form_value p.values (like f true low) ≤ℤ pos 0}
    (λ p k. to_low (terms_value p.values (map (turned true) f.terms)) (terms_value p.values f.terms) f.constant low (negatives p.values f.terms) z k)
    (λ p k. of_low (terms_value p.values (map (turned true) f.terms)) (terms_value p.values f.terms) f.constant low (negatives p.values f.terms) z k)
    (subst (λ (x : Form). Cut A B (λ p. form_value p.values x ≤ℤ pos 0)) e h)

pub high_cut : (A B : Point → Type 0) (f g : Form) (high : ℤ) → g ≡ like f false (neg_ℤ high) → f.constant ≡ pos 0 → Cut A B (λ p. form_value p.values g ≤ℤ pos 0) → Cut A B (λ p. form_value p.values f ≤ℤ high)
high_cut A B f g high e z h =
    cut_as {F = λ p. form_value p.values (like f false (neg_ℤ high)) ≤ℤ pos 0}
    (λ p k. to_high (terms_value p.values (map (turned false) f.terms)) (terms_value p.values f.terms) f.constant high (sames p.values f.terms) z k)
    (λ p k. of_high (terms_value p.values (map (turned false) f.terms)) (terms_value p.values f.terms) f.constant high (sames p.values f.terms) z k)
    (subst (λ (x : Form). Cut A B (λ p. form_value p.values x ≤ℤ pos 0)) e h)

-- ---- one after another

before : (k n : ℕ) → k < n + 1 → k ≢ n → k < n
before k n h e = omega arith

earlier : (k n : ℕ) → k < n → k < n + 1
earlier k n h = omega arith

this : (n : ℕ) → n < n + 1
this n = omega arith

no_number : (k : ℕ) → k < 0 → ⊥
no_number k h = omega arith

pub none_cut : (A : Point → Type 0) (F : ℕ → Point → Type 0) → Cut A A (λ p. (k : ℕ) → k < 0 → F k p)
none_cut A F = cut_same A (λ p. (k : ℕ) → k < 0 → F k p) (λ p k h. absurd (no_number k h))

pub each_cut : (A B C : Point → Type 0) (F : ℕ → Point → Type 0) (n : ℕ) → Cut A B (λ p. (k : ℕ) → k < n → F k p) → Cut B C (F n) → Cut A C (λ p. (k : ℕ) → k < n + 1 → F k p)
each_cut A B C F n h k =
    cut_as
    (λ p w m l. elim (cases_eq m n) [
      | inl e ↦ subst (λ (i : ℕ). F i p) (sym e) w.1
      | inr e ↦ w.0 m (before m n l e)
    ])
    (λ p w. (λ m l. w m (earlier m n l), w n (this n)))
    (cut_both h k)
