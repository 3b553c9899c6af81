-- Least states in which a variable then gets any number of a range.
use Rattle.std.proofs.Common.{◌≡◌, ◌≢◌, inl, inr, ℕ, ◌<◌, ℤ, ◌+ℤ◌, ◌-ℤ◌, ◌≤ℤ◌, Bool, length, sym, ◌∙◌, ap, subst, arith}
use Rattle.std.proofs.lemmas.Int.{ints}
use Rattle.std.proofs.lemmas.Bool.{cases_eq}
use Rattle.wm_interval.specs.declared.Interval.{Interval}
use Rattle.wm_interval.specs.Holds.{Holds}
use Rattle.wm_domain.specs.declared.form.Term.{Term}
use Rattle.wm_domain.specs.declared.shape.Shape.{Shape}
use Rattle.wm_domain.specs.Points.{Point, SameBut, AllowsCell}
use Rattle.wm_domain.specs.Forms.{signed, term_value}
use Rattle.wm_domain.specs.States.{count_of, InShape, Keeps, IsLeast}
use Rattle.wm_domain.specs.Bounds.{Bound, NoPoint, TermBelow, SumBelow, CellIn, Meets, IsBound}
use Rattle.wm_domain.specs.Changes.{Freed}
use Rattle.wm_domain.proofs.Moving.{moved-here, moved-there, with_value, with_value-but}
use Rattle.wm_carry.proofs.Ranks.{count_is}
use Rattle.wm_carry.proofs.Changing.{inside_with}
use Rattle.wm_carry.proofs.Extending.{stable_le}
use Rattle.wm_carry.proofs.Reaching.{Laws, Wanted, reach, through}

of_first : (a b c : ℤ) → (a +ℤ b) ≤ℤ c → a ≤ℤ (c -ℤ b)
of_first a b c h = omega (arith, ints)

to_first : (a b c : ℤ) → a ≤ℤ (c -ℤ b) → (a +ℤ b) ≤ℤ c
to_first a b c h = omega (arith, ints)

of_second : (a b c : ℤ) → (a +ℤ b) ≤ℤ c → b ≤ℤ (c -ℤ a)
of_second a b c h = omega (arith, ints)

to_second : (a b c : ℤ) → b ≤ℤ (c -ℤ a) → (a +ℤ b) ≤ℤ c
to_second a b c h = omega (arith, ints)

-- a sum of two terms at a point where the two variables have these numbers
sum_of : (t u : Term) (x : ℕ → ℤ) (a b c : ℤ) → x t.variable ≡ a → x u.variable ≡ b → (term_value x t +ℤ term_value x u) ≤ℤ c → (signed t.negative a +ℤ signed u.negative b) ≤ℤ c
sum_of t u x a b c e f h =
    subst (λ (y : ℤ). (signed t.negative y +ℤ signed u.negative b) ≤ℤ c) e
    (subst (λ (y : ℤ). (signed t.negative (x t.variable) +ℤ signed u.negative y) ≤ℤ c) f h)

of_sum : (t u : Term) (x : ℕ → ℤ) (a b c : ℤ) → x t.variable ≡ a → x u.variable ≡ b → (signed t.negative a +ℤ signed u.negative b) ≤ℤ c → (term_value x t +ℤ term_value x u) ≤ℤ c
of_sum t u x a b c e f h =
    subst (λ (y : ℤ). (signed t.negative y +ℤ signed u.negative (x u.variable)) ≤ℤ c) (sym e)
    (subst (λ (y : ℤ). (signed t.negative a +ℤ signed u.negative y) ≤ℤ c) (sym f) h)

-- bounds tell points with the same numbers and cells not apart
pub meets_alike : (b : Bound) (p q : Point) → ((u : ℕ) → q.values u ≡ p.values u) → ((a : ℕ) → q.cells a ≡ p.cells a) → Meets b p → Meets b q
meets_alike NoPoint p q e f h = h
meets_alike (TermBelow t c) p q e f h = subst (λ (y : ℤ). signed t.negative y ≤ℤ c) (sym (e t.variable)) h
meets_alike (SumBelow t u c) p q e f h = of_sum t u q.values (p.values t.variable) (p.values u.variable) c (e t.variable) (e u.variable) h
meets_alike (CellIn a s) p q e f h = subst (AllowsCell s) (sym (f a)) h

module _ (S : Type 0) (pairs : Bool) (holds : S → Point → Type 0) (shape_of : S → Shape) (laws : Laws S pairs holds shape_of) (state : S) (F : Point → Type 0) (k : Keeps holds shape_of state F) (l : IsLeast holds shape_of state F) where
  module _ (v : ℕ) (z : ℤ) (x : Point) (hx : holds state x) where
    met_by : (b : Bound) → IsBound pairs (shape_of state) b → ((m : Point) → Wanted (shape_of state) F m → Meets b m) → Meets b x
    met_by b ok all = reach S pairs holds shape_of laws state F k l b ok all x hx

    always : (a c : ℤ) → ((m : Point) → Wanted (shape_of state) F m → a ≤ℤ c) → a ≤ℤ c
    always a c all = stable_le a c (λ never. met_by NoPoint tt (λ m w. never (all m w)))

    here : (m : Point) (u : ℕ) → u ≡ v → (with_value m v z).values u ≡ z
    here m u e = ap (with_value m v z).values e ∙ moved-here m.values v z

    there : (m : Point) (u : ℕ) → u ≢ v → (with_value m v z).values u ≡ m.values u
    there m u n = moved-there m.values v z u n

    -- what holds after each wanted point has got the number holds after x has got it
    pub pull : (b : Bound) → IsBound pairs (shape_of state) b → ((m : Point) → Wanted (shape_of state) F m → Meets b (with_value m v z)) → Meets b (with_value x v z)
    pull NoPoint ok all = met_by NoPoint tt all
    pull (TermBelow t c) ok all = elim (cases_eq t.variable v) [
      | inl e ↦ subst (λ (y : ℤ). signed t.negative y ≤ℤ c) (sym (here x t.variable e)) (always (signed t.negative z) c (λ m w. subst (λ (y : ℤ). signed t.negative y ≤ℤ c) (here m t.variable e) (all m w)))
      | inr n ↦ subst (λ (y : ℤ). signed t.negative y ≤ℤ c) (sym (there x t.variable n)) (met_by (TermBelow t c) ok (λ m w. subst (λ (y : ℤ). signed t.negative y ≤ℤ c) (there m t.variable n) (all m w)))
    ]
    pull (SumBelow t u c) ok all = elim (cases_eq t.variable v) [
      | inl e ↦ elim (cases_eq u.variable v) [
        | inl f ↦ absurd (ok.3 (e ∙ sym f))
        | inr n ↦ of_sum t u (with_value x v z).values z (x.values u.variable) c (here x t.variable e) (there x u.variable n)
            (to_second (signed t.negative z) (term_value x.values u) c (met_by (TermBelow u (c -ℤ signed t.negative z)) (in_all u.variable ok.2)
            (λ m w. of_second (signed t.negative z) (term_value m.values u) c (sum_of t u (with_value m v z).values z (m.values u.variable) c (here m t.variable e) (there m u.variable n) (all m w)))))
      ]
      | inr n ↦ elim (cases_eq u.variable v) [
        | inl f ↦ of_sum t u (with_value x v z).values (x.values t.variable) z c (there x t.variable n) (here x u.variable f)
            (to_first (term_value x.values t) (signed u.negative z) c (met_by (TermBelow t (c -ℤ signed u.negative z)) (in_all t.variable ok.1)
            (λ m w. of_first (term_value m.values t) (signed u.negative z) c (sum_of t u (with_value m v z).values (m.values t.variable) z c (there m t.variable n) (here m u.variable f) (all m w)))))
        | inr i ↦ of_sum t u (with_value x v z).values (x.values t.variable) (x.values u.variable) c (there x t.variable n) (there x u.variable i)
            (met_by (SumBelow t u c) ok (λ m w. sum_of t u (with_value m v z).values (m.values t.variable) (m.values u.variable) c (there m t.variable n) (there m u.variable i) (all m w)))
      ]
    ]
      where
        in_all : (w : ℕ) → w < length (shape_of state).group → w < count_of (shape_of state)
        in_all w h = subst (λ (n : ℕ). w < n) (sym (count_is (shape_of state))) (omega (arith, h))
    pull (CellIn a s) ok all = met_by (CellIn a s) ok all

  pub freed_through : (next : S) (v : ℕ) (r : Interval) → v < count_of (shape_of state) → shape_of next ≡ shape_of state → IsLeast holds shape_of next (Freed (holds state) v r) → IsLeast holds shape_of next (Freed F v r)
  freed_through next v r hv es ln = through S pairs holds shape_of laws next (Freed (holds state) v r) (Freed F v r)
      (λ y w b ok all.
      let x = w.is.was in
      let z = y.values v in
      let yi = subst (λ (s : Shape). InShape s y) es w.inside in
      meets_alike b (with_value x v z) y (same y x v w.is.others) w.is.others.cells
      (pull v z x w.is.point b (subst (λ (s : Shape). IsBound pairs s b) es ok)
      (λ m q. all (with_value m v z) (record {
        inside = subst (λ (s : Shape). InShape s (with_value m v z)) (sym es) (inside_with (shape_of state) m v z q.inside (yi.numbers v hv));
        is = record { was = m; point = q.is; others = with_value-but m v z; value = subst (Holds r) (sym (moved-here m.values v z)) w.is.value };
      }))))
      ln
    where
      same : (y x : Point) (v : ℕ) → SameBut v x y → (u : ℕ) → y.values u ≡ (with_value x v (y.values v)).values u
      same y x v o u = elim (cases_eq u v) [
        | inl e ↦ ap y.values e ∙ sym (moved-here x.values v (y.values v)) ∙ ap (with_value x v (y.values v)).values (sym e)
        | inr n ↦ o.numbers u n ∙ sym (moved-there x.values v (y.values v) u n)
      ]
