-- A variable that points need not have: numbers that meet all bounds on some variables have a number of one more variable
-- with which they meet all bounds on it too.
use Rattle.std.proofs.Common.{◌≡◌, ◌≢◌, ◌⊎◌, inl, inr, ℕ, zero, suc, ◌+◌, ◌/◌, ◌<◌, ℤ, pos, negsuc, neg_ℤ, ◌+ℤ◌, ◌-ℤ◌, ◌≤ℤ◌, ◌<ℤ◌, Bool, true, false, sym, ◌∙◌, ap, subst, arith, length, length-append}
use Rattle.std.specs.Prelude.{IsTrue}
use Rattle.std.proofs.lemmas.Bool.{cases_eq}
use Rattle.std.proofs.lemmas.Int.{ints}
use Rattle.wm_numbers.proofs.Order.{le_or_lt}
use Rattle.wm_domain.specs.declared.form.Term.{Term}
use Rattle.wm_domain.specs.declared.shape.Shape.{Shape}
use Rattle.wm_domain.specs.Points.{Point, range_at}
use Rattle.wm_domain.specs.Forms.{signed, term_value}
use Rattle.wm_domain.specs.States.{variables_of, count_of, InShape}
use Rattle.wm_domain.proofs.Moving.{moved, moved-here, moved-there}

past_it : (a b : ℤ) → b <ℤ a → a ≤ℤ b → ⊥
past_it a b h k = omega (arith, ints)

pub stable_le : (a b : ℤ) → ((a ≤ℤ b → ⊥) → ⊥) → a ≤ℤ b
stable_le a b h = elim (le_or_lt a b) [ inl k ↦ k | inr k ↦ absurd (h (past_it a b k)) ]

-- the greatest number whose double is at most z
half : ℤ → ℤ
half (pos a) = pos (a / 2)
half (negsuc a) = negsuc (a / 2)

half_le : (z : ℤ) → (half z +ℤ half z) ≤ℤ z
unfolding half
half_le (pos a) = omega (arith, ints)
half_le (negsuc a) = omega (arith, ints)

le_half : (z : ℤ) → z ≤ℤ (half z +ℤ half z +ℤ pos 1)
unfolding half
le_half (pos a) = omega (arith, ints)
le_half (negsuc a) = omega (arith, ints)

-- ---- sums of two sides of one variable

same_down : (a b c : ℤ) → a ≡ b → (a +ℤ b) ≤ℤ c → a ≤ℤ half c
same_down a b c e h = let k = le_half c in omega (arith, ints)

same_up : (a b c : ℤ) → a ≡ b → a ≤ℤ half c → (a +ℤ b) ≤ℤ c
same_up a b c e h = let k = half_le c in omega (arith, ints)

none_down : (a b c : ℤ) → a ≡ neg_ℤ b → (a +ℤ b) ≤ℤ c → pos 0 ≤ℤ c
none_down a b c e h = omega (arith, ints)

none_up : (a b c : ℤ) → a ≡ neg_ℤ b → pos 0 ≤ℤ c → (a +ℤ b) ≤ℤ c
none_up a b c e h = omega (arith, ints)

neg_neg : (z : ℤ) → z ≡ neg_ℤ (neg_ℤ z)
neg_neg z = omega (arith, ints)

-- ---- plain numbers

not_above : (a b c : ℤ) → ((a +ℤ pos 1 +ℤ b) ≤ℤ c → ⊥) → c ≤ℤ (a +ℤ b)
not_above a b c never = elim (le_or_lt (a +ℤ pos 1 +ℤ b) c) [ inl h ↦ absurd (never h) | inr h ↦ omega (arith, ints) ]

not_over : (a c : ℤ) → ((a +ℤ pos 1) ≤ℤ c → ⊥) → c ≤ℤ a
not_over a c never = elim (le_or_lt (a +ℤ pos 1) c) [ inl h ↦ absurd (never h) | inr h ↦ omega (arith, ints) ]

down_by : (z q c d : ℤ) → c ≤ℤ z → q ≤ℤ c → neg_ℤ q ≤ℤ d → neg_ℤ z ≤ℤ d
down_by z q c d h k l = omega (arith, ints)

rest_by : (q u c d : ℤ) → q ≤ℤ c → (neg_ℤ q +ℤ u) ≤ℤ d → u ≤ℤ (d +ℤ c)
rest_by q u c d h k = omega (arith, ints)

down_rest : (z u c d : ℤ) → c ≤ℤ z → u ≤ℤ (d +ℤ c) → (neg_ℤ z +ℤ u) ≤ℤ d
down_rest z u c d h k = omega (arith, ints)

other_by : (q u c d : ℤ) → (q +ℤ u) ≤ℤ c → neg_ℤ q ≤ℤ d → u ≤ℤ (d +ℤ c)
other_by q u c d h k = omega (arith, ints)

down_other : (z u c d : ℤ) → c ≤ℤ (z +ℤ u) → u ≤ℤ (d +ℤ c) → neg_ℤ z ≤ℤ d
down_other z u c d h k = omega (arith, ints)

both_by : (q t u c d : ℤ) → (q +ℤ u) ≤ℤ c → (neg_ℤ q +ℤ t) ≤ℤ d → (t +ℤ u) ≤ℤ (d +ℤ c)
both_by q t u c d h k = omega (arith, ints)

down_both : (z t u c d : ℤ) → c ≤ℤ (z +ℤ u) → (t +ℤ u) ≤ℤ (d +ℤ c) → (neg_ℤ z +ℤ t) ≤ℤ d
down_both z t u c d h k = omega (arith, ints)

swapped : (a b c : ℤ) → (a +ℤ b) ≤ℤ c → (b +ℤ a) ≤ℤ c
swapped a b c h = omega (arith, ints)

below_it : (l : ℤ) → neg_ℤ (l -ℤ pos 1) ≤ℤ neg_ℤ l → ⊥
below_it l h = omega (arith, ints)

above_it : (z h : ℤ) → h ≤ℤ z → (z +ℤ pos 1) ≤ℤ h → ⊥
above_it z h k l = omega (arith, ints)

opposite_le : (l z : ℤ) → l ≤ℤ z → neg_ℤ z ≤ℤ neg_ℤ l
opposite_le l z h = omega (arith, ints)

-- how many numbers there are from one to another, at least
steps : ℤ → ℕ
steps (pos n) = n
steps (negsuc n) = 0

le_steps : (z : ℤ) → z ≤ℤ pos (steps z)
unfolding steps
le_steps (pos n) = omega (arith, ints)
le_steps (negsuc n) = omega (arith, ints)

reaches_high : (l h : ℤ) → h ≤ℤ ((l -ℤ pos 1) +ℤ pos (steps (h -ℤ l +ℤ pos 1)))
reaches_high l h = let k = le_steps (h -ℤ l +ℤ pos 1) in omega (arith, ints)

no_step : (z : ℤ) → z ≡ z +ℤ pos zero
no_step z = omega (arith, ints)

one_step : (z : ℤ) (n : ℕ) → (z +ℤ pos n) +ℤ pos 1 ≡ z +ℤ pos (suc n)
one_step z n = omega (arith, ints)

in_front : (n m k v : ℕ) → k ≡ n + m → v < n → v < k
in_front n m k v e h = omega arith

-- the numbers meet all bounds that all these points meet, of those on some variables
pub record Fits (pairs : Bool) (shape : Shape) (Has : Point → Type 0) (On : ℕ → Type 0) (x : ℕ → ℤ) : Type 0 where
  pub term : (t : Term) (c : ℤ) → t.variable < count_of shape → On t.variable → ((q : Point) → Has q → term_value q.values t ≤ℤ c) → term_value x t ≤ℤ c
  pub sum : IsTrue pairs → (t u : Term) (c : ℤ) → t.variable < length shape.group → u.variable < length shape.group → t.variable ≢ u.variable → On t.variable → On u.variable
      → ((q : Point) → Has q → (term_value q.values t +ℤ term_value q.values u) ≤ℤ c) → (term_value x t +ℤ term_value x u) ≤ℤ c

module _ (pairs : Bool) (shape : Shape) (Has : Point → Type 0) (inside : (q : Point) → Has q → InShape shape q) (some : ((q : Point) → Has q → ⊥) → ⊥) (On : ℕ → Type 0) (x : ℕ → ℤ) (f : Fits pairs shape Has On x) where
  of_group : (v : ℕ) → v < length shape.group → v < count_of shape
  of_group v h = in_front (length shape.group) (length shape.singles) (count_of shape) v (length-append shape.group shape.singles) h

  own_sum : (a b : Bool) (v w : ℕ) (c : ℤ) → v ≡ w → v < length shape.group → On v → ((q : Point) → Has q → (signed a (q.values v) +ℤ signed b (q.values w)) ≤ℤ c) → (signed a (x v) +ℤ signed b (x w)) ≤ℤ c
  own_sum true true v w c e h o all = same_up _ _ c (ap (λ (k : ℕ). neg_ℤ (x k)) e) (f.term (record { variable = v; negative = true }) (half c) (of_group v h) o (λ q i. same_down _ _ c (ap (λ (k : ℕ). neg_ℤ (q.values k)) e) (all q i)))
  own_sum false false v w c e h o all = same_up _ _ c (ap x e) (f.term (record { variable = v; negative = false }) (half c) (of_group v h) o (λ q i. same_down _ _ c (ap q.values e) (all q i)))
  own_sum true false v w c e h o all = none_up _ _ c (ap (λ (k : ℕ). neg_ℤ (x k)) e) (stable_le (pos 0) c (λ no. some (λ q i. no (none_down _ _ c (ap (λ (k : ℕ). neg_ℤ (q.values k)) e) (all q i)))))
  own_sum false true v w c e h o all = none_up _ _ c (ap x e ∙ neg_neg (x w)) (stable_le (pos 0) c (λ no. some (λ q i. no (none_down _ _ c (ap q.values e ∙ neg_neg (q.values w)) (all q i)))))

  any_sum : IsTrue pairs → (t u : Term) (c : ℤ) → t.variable < length shape.group → u.variable < length shape.group → On t.variable → On u.variable
      → ((q : Point) → Has q → (term_value q.values t +ℤ term_value q.values u) ≤ℤ c) → (term_value x t +ℤ term_value x u) ≤ℤ c
  any_sum on t u c ht hu ot ou all = elim (cases_eq t.variable u.variable) [
    | inl e ↦ own_sum t.negative u.negative t.variable u.variable c e ht ot all
    | inr ne ↦ f.sum on t u c ht hu ne ot ou all
  ]

  module _ (v : ℕ) where
    -- with z at v they meet all bounds on v, of one sign
    record HalfAt (s : Bool) (z : ℤ) : Type 0 where
      own : (c : ℤ) → ((q : Point) → Has q → signed s (q.values v) ≤ℤ c) → signed s z ≤ℤ c
      beside : IsTrue pairs → (u : Term) (c : ℤ) → v < length shape.group → u.variable < length shape.group → u.variable ≢ v → On u.variable
          → ((q : Point) → Has q → (signed s (q.values v) +ℤ term_value q.values u) ≤ℤ c) → (signed s z +ℤ term_value x u) ≤ℤ c

    low_by_own : (z c : ℤ) → c ≤ℤ z → ((q : Point) → Has q → q.values v ≤ℤ c) → HalfAt true z
    low_by_own z c h all = record {
      own = λ d each. stable_le (neg_ℤ z) d (λ no. some (λ q i. no (down_by z (q.values v) c d h (all q i) (each q i))));
      beside = λ on u d hv hu ne o each. down_rest z _ c d h (f.term u (d +ℤ c) (of_group u.variable hu) o (λ q i. rest_by (q.values v) _ c d (all q i) (each q i)));
    }

    low_by_other : (z c : ℤ) (u : Term) → IsTrue pairs → u.variable < length shape.group → On u.variable → c ≤ℤ (z +ℤ term_value x u) → ((q : Point) → Has q → (q.values v +ℤ term_value q.values u) ≤ℤ c) → HalfAt true z
    low_by_other z c u on hu o h all = record {
      own = λ d each. down_other z (term_value x u) c d h (f.term u (d +ℤ c) (of_group u.variable hu) o (λ q i. other_by (q.values v) _ c d (all q i) (each q i)));
      beside = λ _ t d hv ht ne ot each. down_both z (term_value x t) (term_value x u) c d h (any_sum on t u (d +ℤ c) ht hu ot o (λ q i. both_by (q.values v) _ _ c d (all q i) (each q i)));
    }

    -- where a number fails from below the next does not fail from above
    next_high : (z : ℤ) → (HalfAt true z → ⊥) → HalfAt false (z +ℤ pos 1)
    next_high z n = record {
      own = λ c all. stable_le (z +ℤ pos 1) c (λ no. n (low_by_own z c (not_over z c no) all));
      beside = λ on u c hv hu ne o all. stable_le ((z +ℤ pos 1) +ℤ term_value x u) c (λ no. n (low_by_other z c u on hu o (not_above z (term_value x u) c no) all));
    }

    module _ (none : (z : ℤ) → HalfAt true z → HalfAt false z → ⊥) where
      fails : (n : ℕ) (z : ℤ) → (HalfAt true z → ⊥) → HalfAt true (z +ℤ pos n) → ⊥
      fails zero z never h = never (subst (HalfAt true) (sym (no_step z)) h)
      fails (suc n) z never h = none ((z +ℤ pos n) +ℤ pos 1) (subst (HalfAt true) (sym (one_step z n)) h) (next_high (z +ℤ pos n) (λ k. fails n z never k))

      nowhere : v < count_of shape → ⊥
      nowhere hv =
          let r = range_at (variables_of shape) v in
          let n = steps (r.high -ℤ r.low +ℤ pos 1) in
          let start = r.low -ℤ pos 1 in
          let low : HalfAt true start → ⊥ = λ h. below_it r.low (h.own (neg_ℤ r.low) (λ q i. opposite_le r.low (q.values v) ((inside q i).numbers v hv).above)) in
          let top = next_high (start +ℤ pos n) (fails n start low) in
          above_it (start +ℤ pos n) r.high (reaches_high r.low r.high) (top.own r.high (λ q i. ((inside q i).numbers v hv).below))

    halves : (z : ℤ) → HalfAt true z → HalfAt false z → (s : Bool) → HalfAt s z
    halves z a b true = a
    halves z a b false = b

    abbrev More : ℕ → Type 0
    More w = (w ≡ v) ⊎ On w

    not_it : {w : ℕ} → w ≢ v → More w → On w
    not_it ne (inl e) = absurd (ne e)
    not_it ne (inr o) = o

    both_fit : (z : ℤ) → ((s : Bool) → HalfAt s z) → Fits pairs shape Has More (moved x v z)
    both_fit z h = record {
      term = λ t c ht o all. elim (cases_eq t.variable v) [
        | inl e ↦ subst (λ (y : ℤ). signed t.negative y ≤ℤ c) (sym (at_it t.variable e))
            ((h t.negative).own c (λ q i. subst (λ (k : ℕ). signed t.negative (q.values k) ≤ℤ c) e (all q i)))
        | inr ne ↦ subst (λ (y : ℤ). signed t.negative y ≤ℤ c) (sym (moved-there x v z t.variable ne)) (f.term t c ht (not_it ne o) all)
      ];
      sum = λ on t u c ht hu ne ot ou all. elim (cases_eq t.variable v) [
        | inl e ↦ (
            let apart : u.variable ≢ v = λ k. ne (e ∙ sym k) in
            subst (λ (y : ℤ). (signed t.negative y +ℤ term_value (moved x v z) u) ≤ℤ c) (sym (at_it t.variable e))
            (subst (λ (y : ℤ). (signed t.negative z +ℤ signed u.negative y) ≤ℤ c) (sym (moved-there x v z u.variable apart))
            ((h t.negative).beside on u c (subst (λ (k : ℕ). k < length shape.group) e ht) hu apart (not_it apart ou) (λ q i. subst (λ (k : ℕ). (signed t.negative (q.values k) +ℤ term_value q.values u) ≤ℤ c) e (all q i)))))
        | inr there ↦ elim (cases_eq u.variable v) [
          | inl e ↦
              subst (λ (y : ℤ). (term_value (moved x v z) t +ℤ signed u.negative y) ≤ℤ c) (sym (at_it u.variable e))
              (subst (λ (y : ℤ). (signed t.negative y +ℤ signed u.negative z) ≤ℤ c) (sym (moved-there x v z t.variable there))
              (swapped (signed u.negative z) (term_value x t) c ((h u.negative).beside on t c (subst (λ (k : ℕ). k < length shape.group) e hu) ht there (not_it there ot)
              (λ q i. swapped (term_value q.values t) (signed u.negative (q.values v)) c (subst (λ (k : ℕ). (term_value q.values t +ℤ signed u.negative (q.values k)) ≤ℤ c) e (all q i))))))
          | inr past ↦
              subst (λ (y : ℤ). (signed t.negative y +ℤ term_value (moved x v z) u) ≤ℤ c) (sym (moved-there x v z t.variable there))
              (subst (λ (y : ℤ). (term_value x t +ℤ signed u.negative y) ≤ℤ c) (sym (moved-there x v z u.variable past))
              (f.sum on t u c ht hu ne (not_it there ot) (not_it past ou) all))
        ]
      ];
    }
      where
        at_it : (w : ℕ) → w ≡ v → moved x v z w ≡ z
        at_it w e = subst (λ (k : ℕ). moved x v z k ≡ z) (sym e) (moved-here x v z)

    -- one of its numbers fits
    pub extended : v < count_of shape → ((z : ℤ) → Fits pairs shape Has More (moved x v z) → ⊥) → ⊥
    extended hv never = nowhere (λ z a b. never z (both_fit z (halves z a b))) hv
