-- Points of a state at which a sum of two terms has a number between its values at two others, where one of the two variables
-- moves alone.
use Rattle.std.proofs.Common.{◌≡◌, ◌≢◌, ◌⊎◌, inl, inr, ℕ, zero, suc, ◌<◌, ◌≤◌, ℤ, ◌+ℤ◌, ◌-ℤ◌, ◌≤ℤ◌, ◌<ℤ◌, Bool, true, false, length, refl, sym, ◌∙◌, ap, subst, arith}
use Rattle.std.specs.Prelude.{IsTrue}
use Rattle.std.proofs.lemmas.Bool.{cases_eq}
use Rattle.std.proofs.lemmas.Int.{ints}
use Rattle.wm_numbers.proofs.Order.{le_or_lt, le_refl}
use Rattle.wm_domain.specs.declared.form.Term.{Term}
use Rattle.wm_domain.specs.declared.shape.Shape.{Shape}
use Rattle.wm_domain.specs.Points.{Point}
use Rattle.wm_domain.specs.Forms.{signed, term_value}
use Rattle.wm_domain.specs.States.{count_of, InShape}
use Rattle.wm_domain.specs.Bounds.{NoPoint, TermBelow, SumBelow, CellIn, MeetsAll}
use Rattle.wm_domain.proofs.Moving.{moved, moved-here, moved-there, with_value, with_term, with_term-value, signed-signed, signed-order}
use Rattle.wm_carry.proofs.Ranks.{count_is}
use Rattle.wm_carry.proofs.Extending.{Fits, extended}

between_signed : (b : Bool) (low x high c : ℤ) → low ≤ℤ x → x ≤ℤ high → signed b low ≤ℤ c → signed b high ≤ℤ c → signed b x ≤ℤ c
between_signed true low x high c h k m n = omega (arith, ints)
between_signed false low x high c h k m n = omega (arith, ints)

less_or : (w n : ℕ) → w < suc n → (w ≡ n) ⊎ (w < n)
less_or w n h = grind arith

rest_above : (a b l : ℤ) → (a +ℤ b) ≤ℤ l → b ≤ℤ (l -ℤ a)
rest_above a b l h = omega (arith, ints)

rest_below : (a b l : ℤ) → l ≤ℤ (a +ℤ b) → (l -ℤ a) ≤ℤ b
rest_below a b l h = omega (arith, ints)

first_above : (a b l : ℤ) → (a +ℤ b) <ℤ l → a ≤ℤ (l -ℤ b)
first_above a b l h = omega (arith, ints)

first_below : (a b l : ℤ) → l ≤ℤ (a +ℤ b) → (l -ℤ b) ≤ℤ a
first_below a b l h = omega (arith, ints)

rest_back : (a l : ℤ) → (a +ℤ (l -ℤ a)) ≡ l
rest_back a l = omega (arith, ints)

first_back : (b l : ℤ) → ((l -ℤ b) +ℤ b) ≡ l
first_back b l = omega (arith, ints)

-- no bound on pairs has the variable
abbrev pub IsFree : Bool → Shape → ℕ → Type 0
IsFree pairs s v = IsTrue pairs → v < length s.group → ⊥

module _ (pairs : Bool) (s : Shape) (Has : Point → Type 0) (inside : (m : Point) → Has m → InShape s m) (closed : (x : Point) → MeetsAll pairs s Has x → Has x) where
  weaker : (On Fewer : ℕ → Type 0) (x : ℕ → ℤ) → ((w : ℕ) → Fewer w → On w) → Fits pairs s Has On x → Fits pairs s Has Fewer x
  weaker On Fewer x g f = record {
    term = λ t c h o all. f.term t c h (g t.variable o) all;
    sum = λ on t u c ht hu ne ot ou all. f.sum on t u c ht hu ne (g t.variable ot) (g u.variable ou) all;
  }

  -- ---- a point at which a variable has a number between those at two points

  module _ (p a : Point) (hp : Has p) (ha : Has a) (v : ℕ) (z : ℤ) (above : p.values v ≤ℤ z) (below : z ≤ℤ a.values v) where
    record Filled (n : ℕ) : Type 0 where
      x : ℕ → ℤ
      fits : Fits pairs s Has (λ w. (w < n) ⊎ (w ≡ v)) x
      own : x v ≡ z

    only : (w : ℕ) → (w < 0) ⊎ (w ≡ v) → w ≡ v
    only w (inl h) = absurd (omega (arith, h))
    only w (inr e) = e

    start : Filled 0
    start = record {
      x = λ w. z;
      fits = record {
        term = λ t c ht o all. between_signed t.negative (p.values v) z (a.values v) c above below
            (subst (λ (k : ℕ). signed t.negative (p.values k) ≤ℤ c) (only t.variable o) (all p hp))
            (subst (λ (k : ℕ). signed t.negative (a.values k) ≤ℤ c) (only t.variable o) (all a ha));
        sum = λ on t u c ht hu ne ot ou all. absurd (ne (only t.variable ot ∙ sym (only u.variable ou)));
      };
      own = refl;
    }

    more : (n : ℕ) → n < count_of s → Filled n → (Filled (suc n) → ⊥) → ⊥
    more n hn f never = elim (cases_eq n v) [
      | inl e ↦ never (record {
        x = f.x;
        fits = weaker (λ w. (w < n) ⊎ (w ≡ v)) (λ w. (w < suc n) ⊎ (w ≡ v)) f.x (λ w k. elim k [
          | inl h ↦ elim (less_or w n h) [ inl i ↦ inr (i ∙ e) | inr l ↦ inl l ]
          | inr q ↦ inr q
        ]) f.fits;
        own = f.own;
      })
      | inr ne ↦ extended pairs s Has inside (λ none. none p hp) (λ w. (w < n) ⊎ (w ≡ v)) f.x f.fits n hn (λ y g. never (record {
        x = moved f.x n y;
        fits = weaker (λ w. (w ≡ n) ⊎ ((w < n) ⊎ (w ≡ v))) (λ w. (w < suc n) ⊎ (w ≡ v)) (moved f.x n y) (λ w k. elim k [
          | inl h ↦ elim (less_or w n h) [ inl i ↦ inl i | inr l ↦ inr (inl l) ]
          | inr q ↦ inr (inr q)
        ]) g;
        own = moved-there f.x n y v (λ e. ne (sym e)) ∙ f.own;
      }))
    ]

    filled : (n : ℕ) → n ≤ count_of s → (Filled n → ⊥) → ⊥
    filled zero h never = never start
    filled (suc n) h never = filled n (omega (arith, h)) (λ f. more n (omega (arith, h)) f never)

    abbrev whole_point : Filled (count_of s) → Point
    whole_point f = record { values = f.x; cells = p.cells }

    whole_is : (f : Filled (count_of s)) → Has (whole_point f)
    whole_is f = closed (whole_point f) all_met
      where
        of_group : (w : ℕ) → w < length s.group → w < count_of s
        of_group w h = subst (λ (n : ℕ). w < n) (sym (count_is s)) (omega (arith, h))

        all_met : MeetsAll pairs s Has (whole_point f)
        all_met NoPoint ok all = all p hp
        all_met (TermBelow u c) ok all = f.fits.term u c ok (inl ok) all
        all_met (SumBelow u r c) ok all = f.fits.sum ok.0 u r c ok.1 ok.2 ok.3 (inl (of_group u.variable ok.1)) (inl (of_group r.variable ok.2)) all
        all_met (CellIn b r) ok all = all p hp

    at_value : ((e : Point) → Has e → e.values v ≡ z → ⊥) → ⊥
    at_value never = filled (count_of s) (omega arith) (λ f. never (whole_point f) (whole_is f) f.own)

  at_term : (p a : Point) → Has p → Has a → (t : Term) (z : ℤ) → term_value p.values t ≤ℤ z → z ≤ℤ term_value a.values t → ((e : Point) → Has e → term_value e.values t ≡ z → ⊥) → ⊥
  at_term p a hp ha t z h k never =
      elim (signed-order t.negative (p.values t.variable) (signed t.negative z) (a.values t.variable)
      (subst (λ (y : ℤ). signed t.negative (p.values t.variable) ≤ℤ y) (sym (signed-signed t.negative z)) h)
      (subst (λ (y : ℤ). y ≤ℤ signed t.negative (a.values t.variable)) (sym (signed-signed t.negative z)) k)) [
        | inl b ↦ at_value p a hp ha t.variable (signed t.negative z) b.0 b.1 (λ e he i. never e he (ap (signed t.negative) i ∙ signed-signed t.negative z))
        | inr b ↦ at_value a p ha hp t.variable (signed t.negative z) b.0 b.1 (λ e he i. never e he (ap (signed t.negative) i ∙ signed-signed t.negative z))
      ]

  -- ---- a variable that moves alone

  free_moved : (m n o : Point) → Has m → Has n → Has o → (v : ℕ) → IsFree pairs s v → (z : ℤ) → n.values v ≤ℤ z → z ≤ℤ o.values v → Has (with_value m v z)
  free_moved m n o hm hn ho v free z above below = closed (with_value m v z) all_met
    where
      all_met : MeetsAll pairs s Has (with_value m v z)
      all_met NoPoint ok all = all m hm
      all_met (TermBelow t c) ok all = elim (cases_eq t.variable v) [
        | inl e ↦ subst (λ (y : ℤ). signed t.negative y ≤ℤ c) (sym (ap (with_value m v z).values e ∙ moved-here m.values v z))
            (between_signed t.negative (n.values v) z (o.values v) c above below
            (subst (λ (k : ℕ). signed t.negative (n.values k) ≤ℤ c) e (all n hn))
            (subst (λ (k : ℕ). signed t.negative (o.values k) ≤ℤ c) e (all o ho)))
        | inr ne ↦ subst (λ (y : ℤ). signed t.negative y ≤ℤ c) (sym (moved-there m.values v z t.variable ne)) (all m hm)
      ]
      all_met (SumBelow t u c) ok all =
          subst (λ (y : ℤ). (signed t.negative y +ℤ term_value (with_value m v z).values u) ≤ℤ c) (sym (moved-there m.values v z t.variable (λ e. free ok.0 (subst (λ (k : ℕ). k < length s.group) e ok.1))))
          (subst (λ (y : ℤ). (signed t.negative (m.values t.variable) +ℤ signed u.negative y) ≤ℤ c) (sym (moved-there m.values v z u.variable (λ e. free ok.0 (subst (λ (k : ℕ). k < length s.group) e ok.2)))) (all m hm))
      all_met (CellIn b r) ok all = all m hm

  put_term : (m n o : Point) → Has m → Has n → Has o → (u : Term) → IsFree pairs s u.variable → (z : ℤ) → term_value n.values u ≤ℤ z → z ≤ℤ term_value o.values u → Has (with_term m u z)
  put_term m n o hm hn ho u free z h k =
      elim (signed-order u.negative (n.values u.variable) (signed u.negative z) (o.values u.variable)
      (subst (λ (y : ℤ). signed u.negative (n.values u.variable) ≤ℤ y) (sym (signed-signed u.negative z)) h)
      (subst (λ (y : ℤ). y ≤ℤ signed u.negative (o.values u.variable)) (sym (signed-signed u.negative z)) k)) [
        | inl b ↦ free_moved m n o hm hn ho u.variable free (signed u.negative z) b.0 b.1
        | inr b ↦ free_moved m o n hm ho hn u.variable free (signed u.negative z) b.0 b.1
      ]

  sum_is : (m : Point) (t u : Term) (z : ℤ) → t.variable ≢ u.variable → (term_value (with_term m u z).values t +ℤ term_value (with_term m u z).values u) ≡ (term_value m.values t +ℤ z)
  sum_is m t u z ne =
      ap (λ (y : ℤ). signed t.negative y +ℤ term_value (with_term m u z).values u) (moved-there m.values u.variable (signed u.negative z) t.variable ne)
      ∙ ap (λ (y : ℤ). term_value m.values t +ℤ y) (with_term-value m u z)

  -- the sum of two terms, of which the second moves alone, has each number between its values at two points
  pub cross : (t u : Term) → t.variable ≢ u.variable → IsFree pairs s u.variable → (p a : Point) → Has p → Has a → (l : ℤ) → (term_value p.values t +ℤ term_value p.values u) ≤ℤ l → l ≤ℤ (term_value a.values t +ℤ term_value a.values u)
      → ((q : Point) → Has q → (term_value q.values t +ℤ term_value q.values u) ≡ l → ⊥) → ⊥
  cross t u ne free p a hp ha l below above never = elim (le_or_lt l (term_value p.values t +ℤ term_value a.values u)) [
    | inl h ↦ never (with_term p u (l -ℤ term_value p.values t))
        (put_term p p a hp hp ha u free (l -ℤ term_value p.values t) (rest_above (term_value p.values t) (term_value p.values u) l below) (rest_below (term_value p.values t) (term_value a.values u) l h))
        (sum_is p t u (l -ℤ term_value p.values t) ne ∙ rest_back (term_value p.values t) l)
    | inr k ↦ at_term p a hp ha t (l -ℤ term_value a.values u) (first_above (term_value p.values t) (term_value a.values u) l k) (first_below (term_value a.values t) (term_value a.values u) l above)
        (λ e he i. never (with_term e u (term_value a.values u))
        (put_term e a a he ha ha u free (term_value a.values u) (le_refl (term_value a.values u)) (le_refl (term_value a.values u)))
        (sum_is e t u (term_value a.values u) ne ∙ ap (λ (y : ℤ). y +ℤ term_value a.values u) i ∙ first_back (term_value a.values u) l))
  ]
