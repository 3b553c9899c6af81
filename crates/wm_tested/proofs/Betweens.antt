-- Least states of points at which a form lies between two numbers.
use Rattle.std.proofs.Common.{◌≡◌, ◌≢◌, ◌⊎◌, inl, inr, ℕ, ◌<◌, ℤ, pos, neg_ℤ, ◌+ℤ◌, ◌-ℤ◌, ◌≤ℤ◌, ◌<ℤ◌, Bool, true, false, not, List, [], ◌∷◌, length, refl, sym, ◌∙◌, ap, subst, arith}
use Rattle.std.proofs.lemmas.Int.{ints}
use Rattle.wm_numbers.proofs.Order.{le_or_lt}
use Rattle.wm_domain.specs.declared.form.Term.{Term}
use Rattle.wm_domain.specs.declared.form.Form.{Form}
use Rattle.wm_domain.specs.declared.shape.Shape.{Shape}
use Rattle.wm_domain.specs.Points.{Point}
use Rattle.wm_domain.specs.Forms.{signed, term_value, terms_value, form_value, AreTerms, AreBounded}
use Rattle.wm_domain.specs.States.{InShape, Keeps, IsLeast}
use Rattle.wm_domain.specs.Bounds.{Bound, NoPoint, TermBelow, SumBelow, CellIn, Meets, IsBound, MeetsAll}
use Rattle.wm_carry.proofs.Ranks.{side}
use Rattle.wm_carry.proofs.Reaching.{Laws, Wanted, bound_met, reach, through}
use Rattle.wm_tested.specs.Likes.{Below, Above, Between}
use Rattle.wm_tested.proofs.Crossing.{IsFree, cross}

-- ---- forms whose bounds are not kept as they are

-- two terms, of which one has a variable that moves alone
record Parted (pairs : Bool) (s : Shape) (ts : List Term) : Type 0 where
  t : Term
  u : Term
  is : ts ≡ t ∷ u ∷ []
  apart : t.variable ≢ u.variable
  free : IsFree pairs s t.variable ⊎ IsFree pairs s u.variable

parted : (pairs : Bool) (s : Shape) (n : ℕ) (ts : List Term) → AreTerms n ts → (AreBounded pairs (length s.group) ts → ⊥) → Parted pairs s ts
parted pairs s n [] h not_bounded = absurd (not_bounded tt)
parted pairs s n (t ∷ []) h not_bounded = absurd (not_bounded tt)
parted pairs s n (t ∷ u ∷ []) h not_bounded = record {
  t = t;
  u = u;
  is = refl;
  apart = h.2;
  free = elim (side t.variable (length s.group)) [
    | inl ht ↦ inr (λ on hu. not_bounded (on, ht, hu))
    | inr k ↦ inl (λ on ht. absurd (omega (arith, ht, k)))
  ];
}
parted pairs s n (t ∷ u ∷ v ∷ rest) h not_bounded = absurd h

zero_last : (a b c : ℤ) → ((a +ℤ (b +ℤ pos 0)) +ℤ c) ≡ ((a +ℤ b) +ℤ c)
zero_last a b c = omega (arith, ints)

value_is : (x : ℕ → ℤ) (ts : List Term) (t u : Term) (c : ℤ) → ts ≡ t ∷ u ∷ [] → (terms_value x ts +ℤ c) ≡ ((term_value x t +ℤ term_value x u) +ℤ c)
value_is x ts t u c e = ap (λ (ys : List Term). terms_value x ys +ℤ c) e ∙ zero_last (term_value x t) (term_value x u) c

swapped : (a b c : ℤ) → (a +ℤ b) ≡ c → (b +ℤ a) ≡ c
swapped a b c e = omega (arith, ints)

below_swapped : (a b c : ℤ) → (a +ℤ b) ≤ℤ c → (b +ℤ a) ≤ℤ c
below_swapped a b c e = omega (arith, ints)

above_swapped : (a b c : ℤ) → c ≤ℤ (a +ℤ b) → c ≤ℤ (b +ℤ a)
above_swapped a b c e = omega (arith, ints)

down : (v s c low : ℤ) → v ≡ s +ℤ c → v <ℤ low → s ≤ℤ (low -ℤ c)
down v s c low e h = omega (arith, ints)

up : (v s c low high : ℤ) → v ≡ s +ℤ c → high <ℤ v → low ≤ℤ high → (low -ℤ c) ≤ℤ s
up v s c low high e h k = omega (arith, ints)

at_low : (v s c low : ℤ) → v ≡ s +ℤ c → s ≡ low -ℤ c → low ≤ℤ v
at_low v s c low e f = omega (arith, ints)

at_high : (v s c low high : ℤ) → v ≡ s +ℤ c → s ≡ low -ℤ c → low ≤ℤ high → v ≤ℤ high
at_high v s c low high e f k = omega (arith, ints)

-- ---- bounds that are not met

abbrev flipped : Term → Term
flipped t = record { variable = t.variable; negative = not t.negative }

sign_flipped : (b : Bool) (z : ℤ) → signed (not b) z ≡ neg_ℤ (signed b z)
sign_flipped true z = omega (arith, ints)
sign_flipped false z = refl

past_one : (a b c : ℤ) → a ≡ neg_ℤ b → c <ℤ b → a ≤ℤ (neg_ℤ c -ℤ pos 1)
past_one a b c e h = omega (arith, ints)

past_two : (a b d e c : ℤ) → a ≡ neg_ℤ d → b ≡ neg_ℤ e → c <ℤ (d +ℤ e) → (a +ℤ b) ≤ℤ (neg_ℤ c -ℤ pos 1)
past_two a b d e c i j h = omega (arith, ints)

back_one : (a b c : ℤ) → a ≡ neg_ℤ b → a ≤ℤ (neg_ℤ c -ℤ pos 1) → b ≤ℤ c → ⊥
back_one a b c e h k = omega (arith, ints)

back_two : (a b d e c : ℤ) → a ≡ neg_ℤ d → b ≡ neg_ℤ e → (a +ℤ b) ≤ℤ (neg_ℤ c -ℤ pos 1) → (d +ℤ e) ≤ℤ c → ⊥
back_two a b d e c i j h k = omega (arith, ints)

over_one : (t : Term) (c : ℤ) (p : Point) → (Meets (TermBelow t c) p → ⊥) → Meets (TermBelow (flipped t) (neg_ℤ c -ℤ pos 1)) p
over_one t c p never = elim (le_or_lt (term_value p.values t) c) [
  | inl h ↦ absurd (never h)
  | inr h ↦ past_one (term_value p.values (flipped t)) (term_value p.values t) c (sign_flipped t.negative (p.values t.variable)) h
]

over_two : (t u : Term) (c : ℤ) (p : Point) → (Meets (SumBelow t u c) p → ⊥) → Meets (SumBelow (flipped t) (flipped u) (neg_ℤ c -ℤ pos 1)) p
over_two t u c p never = elim (le_or_lt (term_value p.values t +ℤ term_value p.values u) c) [
  | inl h ↦ absurd (never h)
  | inr h ↦ past_two (term_value p.values (flipped t)) (term_value p.values (flipped u)) (term_value p.values t) (term_value p.values u) c (sign_flipped t.negative (p.values t.variable)) (sign_flipped u.negative (p.values u.variable)) h
]

-- ---- states

module _ (S : Type 0) (pairs : Bool) (holds : S → Point → Type 0) (shape_of : S → Shape) (laws : Laws S pairs holds shape_of) where
  -- the numbers of one point with the cells of another
  cells_from : (s : S) (q p : Point) → holds s q → holds s p → holds s (record { values = q.values; cells = p.cells })
  cells_from s q p hq hp = laws.closed s (record { values = q.values; cells = p.cells }) all_met
    where
      all_met : MeetsAll pairs (shape_of s) (holds s) (record { values = q.values; cells = p.cells })
      all_met NoPoint ok all = all p hp
      all_met (TermBelow t c) ok all = all q hq
      all_met (SumBelow t u c) ok all = all q hq
      all_met (CellIn a r) ok all = all p hp

  module _ (old : S) (f : Form) (low high : ℤ) (ordered : low ≤ℤ high) (of : Parted pairs (shape_of old) f.terms) where
    -- a state of the shape with a point below and one above has one between
    crossed : (k : S) → shape_of k ≡ shape_of old → (p a : Point) → holds k p → holds k a → form_value p.values f <ℤ low → high <ℤ form_value a.values f
        → ((q : Point) → holds k q → low ≤ℤ form_value q.values f → form_value q.values f ≤ℤ high → ⊥) → ⊥
    crossed k same p a hp ha fp fa never =
        let t = of.t in
        let u = of.u in
        let c = f.constant in
        let is = λ (x : Point). value_is x.values f.terms t u c of.is in
        let below = down (form_value p.values f) (term_value p.values t +ℤ term_value p.values u) c low (is p) fp in
        let above = up (form_value a.values f) (term_value a.values t +ℤ term_value a.values u) c low high (is a) fa ordered in
        elim of.free [
          | inl free ↦ cross pairs (shape_of k) (holds k) (λ m h. laws.inside k m h) (λ x h. laws.closed k x h) u t (λ e. of.apart (sym e)) (subst (λ (s : Shape). IsFree pairs s t.variable) (sym same) free) p a hp ha (low -ℤ c)
              (below_swapped (term_value p.values t) (term_value p.values u) (low -ℤ c) below) (above_swapped (term_value a.values t) (term_value a.values u) (low -ℤ c) above)
              (λ q hq e. found q hq (swapped (term_value q.values u) (term_value q.values t) (low -ℤ c) e))
          | inr free ↦ cross pairs (shape_of k) (holds k) (λ m h. laws.inside k m h) (λ x h. laws.closed k x h) t u of.apart (subst (λ (s : Shape). IsFree pairs s u.variable) (sym same) free) p a hp ha (low -ℤ c) below above found
        ]
      where
        found : (q : Point) → holds k q → (term_value q.values of.t +ℤ term_value q.values of.u) ≡ (low -ℤ f.constant) → ⊥
        found q hq e =
            let v = value_is q.values f.terms of.t of.u f.constant of.is in
            never q hq (at_low (form_value q.values f) (term_value q.values of.t +ℤ term_value q.values of.u) f.constant low v e) (at_high (form_value q.values f) (term_value q.values of.t +ℤ term_value q.values of.u) f.constant low high v e ordered)

    -- so no bound that all points between meet is met neither below nor above
    clash : (b : Bound) → IsBound pairs (shape_of old) b → ((q : Point) → holds old q → low ≤ℤ form_value q.values f → form_value q.values f ≤ℤ high → Meets b q)
        → (p a : Point) → holds old p → holds old a → form_value p.values f <ℤ low → high <ℤ form_value a.values f → (Meets b p → ⊥) → (Meets b a → ⊥) → ⊥
    clash NoPoint ok all p a hp ha fp fa np na = crossed old refl p a hp ha fp fa (λ q hq l h. all q hq l h)
    clash (CellIn x r) ok all p a hp ha fp fa np na = crossed old refl p a hp ha fp fa (λ q hq l h. np (all (record { values = q.values; cells = p.cells }) (cells_from old q p hq hp) l h))
    clash (TermBelow t c) ok all p a hp ha fp fa np na =
        let k = laws.cuts old p hp (TermBelow (flipped t) (neg_ℤ c -ℤ pos 1)) ok in
        crossed k.state k.same p a ((k.points p).1 (hp, over_one t c p np)) ((k.points a).1 (ha, over_one t c a na)) fp fa
        (λ q hq l h.
        let i = (k.points q).0 hq in
        back_one (term_value q.values (flipped t)) (term_value q.values t) c (sign_flipped t.negative (q.values t.variable)) i.1 (all q i.0 l h))
    clash (SumBelow t u c) ok all p a hp ha fp fa np na =
        let k = laws.cuts old p hp (SumBelow (flipped t) (flipped u) (neg_ℤ c -ℤ pos 1)) ok in
        crossed k.state k.same p a ((k.points p).1 (hp, over_two t u c p np)) ((k.points a).1 (ha, over_two t u c a na)) fp fa
        (λ q hq l h.
        let i = (k.points q).0 hq in
        back_two (term_value q.values (flipped t)) (term_value q.values (flipped u)) (term_value q.values t) (term_value q.values u) c (sign_flipped t.negative (q.values t.variable)) (sign_flipped u.negative (q.values u.variable)) i.1 (all q i.0 l h))

  not_both : (a b : ℤ) → a ≤ℤ b → b <ℤ a → ⊥
  not_both a b h k = omega (arith, ints)

  -- the points of the state at least at one number, of which those at most at the other were taken
  pub least_between : (old middle new : S) (f : Form) (low high : ℤ) (n : ℕ) → AreTerms n f.terms → low ≤ℤ high → shape_of middle ≡ shape_of old → shape_of new ≡ shape_of middle
      → ((p : Point) → holds middle p → holds old p) → (AreBounded pairs (length (shape_of old).group) f.terms → (p : Point) → holds middle p → Above (holds old) f low p)
      → Keeps holds shape_of middle (Above (holds old) f low) → IsLeast holds shape_of middle (Above (holds old) f low) → IsLeast holds shape_of new (Below (holds middle) f high) → IsLeast holds shape_of new (Between (holds old) f low high)
  least_between old middle new f low high n terms ordered em en fewer made km lm l = through S pairs holds shape_of laws new (Below (holds middle) f high) (Between (holds old) f low high)
      (λ p w b ok all. bound_met b p (λ np. at p w.is.point w.is.below b (subst (λ (s : Shape). IsBound pairs s b) (en ∙ em) ok)
      (λ q hq lo hi. all q (record { inside = subst (λ (s : Shape). InShape s q) (sym (en ∙ em)) (laws.inside old q hq); is = record { point = hq; above = lo; below = hi } })) np))
      l
    where
      at : (p : Point) → holds middle p → form_value p.values f ≤ℤ high → (b : Bound) → IsBound pairs (shape_of old) b → ((q : Point) → holds old q → low ≤ℤ form_value q.values f → form_value q.values f ≤ℤ high → Meets b q) → (Meets b p → ⊥) → ⊥
      at p hp below b ok all np = elim (le_or_lt low (form_value p.values f)) [
        | inl lo ↦ np (all p (fewer p hp) lo below)
        | inr fp ↦ (
            let of = parted pairs (shape_of old) n f.terms terms (λ bounded. not_both low (form_value p.values f) (made bounded p hp).above fp) in
            np (reach S pairs holds shape_of laws middle (Above (holds old) f low) km lm b (subst (λ (s : Shape). IsBound pairs s b) (sym em) ok)
            (λ a wa. bound_met b a (λ na. elim (le_or_lt (form_value a.values f) high) [
              | inl hi ↦ na (all a wa.is.point wa.is.above hi)
              | inr fa ↦ clash old f low high ordered of b ok all p a (fewer p hp) wa.is.point fp fa np na
            ]))
            p hp))
      ]

  -- no point lies between two numbers of which the first is greater
  pub none_between : (Has : Point → Type 0) (f : Form) (low high : ℤ) (p : Point) → high <ℤ low → Between Has f low high p → ⊥
  none_between Has f low high p h b = apart (form_value p.values f) low high h b.above b.below
    where
      apart : (v low high : ℤ) → high <ℤ low → low ≤ℤ v → v ≤ℤ high → ⊥
      apart v low high h i j = omega (arith, ints)

  -- nor does a state without a point hold one
  pub bare_between : (Has : Point → Type 0) (new : S) (f : Form) (low high : ℤ) → high <ℤ low → Keeps holds shape_of new (Between Has f low high)
  bare_between Has new f low high h = record { kept = λ p i b. absurd (none_between Has f low high p h b) }

pub made_between : (Old Middle New : Point → Type 0) (pairs : Bool) (m n : ℕ) (ts : List Term) (f : Form) (low high : ℤ) → n ≡ m → (AreBounded pairs m ts → (p : Point) → Middle p → Above Old f low p) → (AreBounded pairs n ts → (p : Point) → New p → Below Middle f high p)
    → AreBounded pairs m ts → (p : Point) → New p → Between Old f low high p
made_between Old Middle New pairs m n ts f low high e first second bounded p h =
    let b = second (subst (λ (k : ℕ). AreBounded pairs k ts) (sym e) bounded) p h in
    let a = first bounded p b.point in
    record { point = a.point; above = a.above; below = b.below }
