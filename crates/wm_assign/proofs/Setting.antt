-- The points of a state where one variable gets a number.
use Rattle.std.proofs.Common.{◌≡◌, ℕ, ◌<◌, ℤ, ◌-ℤ◌, ◌+ℤ◌, List, [], ◌∷◌, Option, Some, None, refl, sym, ◌∙◌, ap, subst}
use Rattle.std.specs.Prelude.{◌↔◌}
use Rattle.wm_interval.specs.declared.Interval.{Interval}
use Rattle.wm_interval.specs.Holds.{Holds}
use Rattle.wm_domain.specs.declared.shape.Shape.{Shape}
use Rattle.wm_domain.specs.declared.form.Term.{Term}
use Rattle.wm_domain.specs.declared.form.Form.{Form}
use Rattle.wm_domain.specs.Points.{Point, SameBut}
use Rattle.wm_domain.specs.Forms.{signed, terms_value, form_value, AreTerms, IsForm, IsSimple}
use Rattle.wm_domain.specs.States.{count_of, InShape, Keeps}
use Rattle.wm_domain.specs.Changes.{Freed, Assigned, Near}
use Rattle.wm_domain.proofs.Moving.{same_but_all}
use Rattle.wm_carry.specs.Following.{origin, Comes, IsWay, Follows, Moved}
use Rattle.wm_carry.proofs.Changing.{before, after, after_moved, new_follows}
use Rattle.wm_assign.specs.Giving.{Sets, IsSeen, AreSeen}

module _ {S : Type 0} (Holds_of : S → Point → Type 0) (shape_of : S → Shape) (middle state : S) (s t : Shape) (Has : Point → Type 0) where
  -- after a state was carried, variable v got any number of r
  pub keeps_any : (v : ℕ) (r : Interval) → IsWay s t → ((x : Point) → Has x → InShape s x) → v < count_of t → shape_of middle ≡ t → shape_of state ≡ t
      → Keeps Holds_of shape_of middle (Moved s t Has [] []) → Keeps Holds_of shape_of state (Freed (Holds_of middle) v r) → Keeps Holds_of shape_of state (Sets s t Has v (λ was z. Holds r z))
  keeps_any v r way inside hv em es km ks = record {
    kept = λ p i h.
        let b = before s t Has v [] [] h.was p way inside hv (subst (λ (x : Shape). InShape x p) es i) h.carried in
        ks.kept p i (record {
          was = b.point;
          point = km.kept b.point (subst (λ (x : Shape). InShape x b.point) (sym em) b.inside) (record { was = h.was; carried = b.carried });
          others = b.others;
          value = h.value;
        });
  }

  -- before a state was carried, the variable from which v comes got a number
  pub keeps_old : (v o : ℕ) (What : Point → ℤ → Type 0) (Step : Point → Type 0) → IsWay s t → ((x : Point) → Has x → InShape s x) → v < count_of t → origin s t v ≡ Some o → shape_of middle ≡ s → shape_of state ≡ t
      → Keeps Holds_of shape_of middle Step → Keeps Holds_of shape_of state (Moved s t (Holds_of middle) [] [])
      → ((was q : Point) (z : ℤ) → Has was → SameBut o was q → q.values o ≡ z → What was z → Step q)
      → Keeps Holds_of shape_of state (Sets s t Has v What)
  keeps_old v o What Step way inside hv e em es km ks to = record {
    kept = λ p i h.
        let a = after s t Has v o [] h.was p way inside hv (subst (λ (x : Shape). InShape x p) es i) e h.carried in
        ks.kept p i (after_moved s t (Holds_of middle) v o [] h.was p a
        (km.kept a.point (subst (λ (x : Shape). InShape x a.point) (sym em) a.inside) (to h.was a.point (p.values v) h.carried.point a.others a.number h.value)));
  }

  -- after a state was carried, a variable that has no origin got a number
  pub keeps_new : (v : ℕ) (What : Point → ℤ → Type 0) (Step : Point → Type 0) → origin s t v ≡ None → shape_of middle ≡ t → shape_of state ≡ t
      → Keeps Holds_of shape_of middle (Moved s t Has [] []) → Keeps Holds_of shape_of state Step
      → ((was p : Point) → Holds_of middle p → Follows s t [] was p → What was (p.values v) → Step p)
      → Keeps Holds_of shape_of state (Sets s t Has v What)
  keeps_new v What Step e em es km ks to = record {
    kept = λ p i h.
        let f = new_follows s t v h.was p e h.carried.numbers in
        ks.kept p i (to h.was p
        (km.kept p (subst (λ (x : Shape). InShape x p) (es ∙ sym em) i) (record { was = h.was; carried = record { point = h.carried.point; numbers = f; cells = h.carried.cells } }))
        f h.value);
  }

-- ---- a number near a variable

pub near_old : (Has Copy : Point → Type 0) (o w : ℕ) (d r : Interval) → ((p : Point) → Copy p ↔ Has p) → (was q : Point) (z : ℤ) → Has was → SameBut o was q → q.values o ≡ z → Holds r z × Holds d (z -ℤ was.values w) → Near Copy o w d r q
near_old Has Copy o w d r same was q z h s n k = record {
  was = was;
  point = (same was).1 h;
  others = s;
  value = subst (Holds r) (sym n) k.0;
  near = subst (λ (x : ℤ). Holds d (x -ℤ was.values w)) (sym n) k.1;
}

-- a variable that both nodes have
pub seen_number : (s t : Shape) (v w : ℕ) (was p : Point) → origin s t v ≡ None → IsSeen s t v w → Follows s t [] was p → p.values w ≡ was.values w
seen_number s t v w was p e seen f = let k = seen e in subst (λ (o : Option ℕ). Comes was o (p.values w)) k.0 (f.numbers w k.1 tt)

pub near_new : (s t : Shape) (Mid : Point → Type 0) (v w : ℕ) (d r : Interval) → origin s t v ≡ None → IsSeen s t v w → (was p : Point) → Mid p → Follows s t [] was p → Holds r (p.values v) × Holds d (p.values v -ℤ was.values w) → Near Mid v w d r p
near_new s t Mid v w d r e seen was p h f k = record {
  was = p;
  point = h;
  others = same_but_all v p;
  value = k.0;
  near = subst (λ (x : ℤ). Holds d (p.values v -ℤ x)) (sym (seen_number s t v w was p e seen f)) k.1;
}

-- ---- the value of a form

pub form_old : (Has Copy : Point → Type 0) (o : ℕ) (f : Form) → ((p : Point) → Copy p ↔ Has p) → (was q : Point) (z : ℤ) → Has was → SameBut o was q → q.values o ≡ z → z ≡ form_value was.values f → Assigned Copy o f q
form_old Has Copy o f same was q z h s n k = record { was = was; point = (same was).1 h; others = s; value = n ∙ k }

pub same_terms : (s t : Shape) (v : ℕ) (was p : Point) (ts : List Term) → origin s t v ≡ None → AreSeen s t v ts → Follows s t [] was p → terms_value p.values ts ≡ terms_value was.values ts
same_terms s t v was p [] e seen f = refl
same_terms s t v was p (u ∷ rest) e seen f =
    ap (λ (x : ℤ). signed u.negative x +ℤ terms_value p.values rest) (seen_number s t v u.variable was p e seen.0 f)
    ∙ ap (λ (x : ℤ). signed u.negative (was.values u.variable) +ℤ x) (same_terms s t v was p rest e seen.1 f)

pub form_new : (s t : Shape) (Mid : Point → Type 0) (v : ℕ) (g : Form) → origin s t v ≡ None → AreSeen s t v g.terms → (was p : Point) → Mid p → Follows s t [] was p → p.values v ≡ form_value was.values g → Assigned Mid v g p
form_new s t Mid v g e seen was p h f k = record {
  was = p;
  point = h;
  others = same_but_all v p;
  value = k ∙ ap (λ (x : ℤ). x +ℤ g.constant) (sym (same_terms s t v was p g.terms e seen f));
}

seen_terms : (s t : Shape) (v n : ℕ) (ts : List Term) → origin s t v ≡ None → IsSimple ts → AreSeen s t v ts → AreTerms n ts → AreTerms (count_of t) ts
seen_terms s t v n [] e m seen h = tt
seen_terms s t v n (u ∷ []) e m seen h = (seen.0 e).1
seen_terms s t v n (u ∷ w ∷ rest) e m seen h = absurd m

-- the form is one over the next node's variables
pub seen_form : (s t : Shape) (v : ℕ) (f : Form) → origin s t v ≡ None → IsSimple f.terms → AreSeen s t v f.terms → IsForm (count_of s) f → IsForm (count_of t) f
seen_form s t v f e m seen h = record { terms = seen_terms s t v (count_of s) f.terms e m seen h.terms; small = h.small }

-- ---- what is allowed more

pub keeps_more : {S : Type 0} (Holds_of : S → Point → Type 0) (shape_of : S → Shape) (state : S) (s t : Shape) (Has : Point → Type 0) (v : ℕ) (What More : Point → ℤ → Type 0) → ((was p : Point) → Has was → InShape (shape_of state) p → More was (p.values v) → What was (p.values v))
    → Keeps Holds_of shape_of state (Sets s t Has v What) → Keeps Holds_of shape_of state (Sets s t Has v More)
keeps_more Holds_of shape_of state s t Has v What More to k = record {
  kept = λ p i h. k.kept p i (record { was = h.was; carried = h.carried; value = to h.was p h.carried.point i h.value });
}
