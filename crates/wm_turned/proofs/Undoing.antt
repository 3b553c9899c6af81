-- Each point of a state in which one variable has changed comes from a point of the state before.
use Rattle.std.proofs.Common.{◌≡◌, ◌≢◌, ◌⊎◌, inl, inr, ℕ, ◌<◌, ℤ, pos, neg_ℤ, ◌+ℤ◌, ◌-ℤ◌, ◌≤ℤ◌, Bool, true, false, length, refl, sym, ◌∙◌, ap, subst, arith}
use Rattle.std.proofs.lemmas.Bool.{cases_eq}
use Rattle.std.proofs.lemmas.Int.{ints}
use Rattle.wm_interval.specs.declared.Interval.{Interval}
use Rattle.wm_interval.specs.Holds.{Holds}
use Rattle.wm_domain.specs.declared.form.Term.{Term}
use Rattle.wm_domain.specs.declared.form.Form.{Form}
use Rattle.wm_domain.specs.declared.shape.Shape.{Shape}
use Rattle.wm_domain.specs.Points.{Point, SameBut, AllowsCell}
use Rattle.wm_domain.specs.Forms.{signed, term_value, form_value}
use Rattle.wm_domain.specs.States.{count_of, Keeps, IsLeast}
use Rattle.wm_domain.specs.Bounds.{Bound, NoPoint, TermBelow, SumBelow, CellIn, Meets, IsBound, MeetsAll}
use Rattle.wm_domain.specs.Changes.{Freed, Assigned}
use Rattle.wm_domain.proofs.Moving.{moved, moved-here, moved-there, with_value}
use Rattle.wm_carry.proofs.Changing.{same_back}
use Rattle.wm_carry.proofs.Extending.{Fits, extended}
use Rattle.wm_carry.proofs.Reaching.{Laws, Wanted, reach}
use Rattle.wm_tested.specs.Likes.{variable_form}

above_low : (b z : ℤ) → neg_ℤ z ≤ℤ neg_ℤ b → b ≤ℤ z
above_low b z h = omega (arith, ints)

opposite : (b z : ℤ) → b ≤ℤ z → neg_ℤ z ≤ℤ neg_ℤ b
opposite b z h = omega (arith, ints)

-- a sum of two terms at a point where the two variables have these numbers
of_sum : (t u : Term) (x : ℕ → ℤ) (a b c : ℤ) → x t.variable ≡ a → x u.variable ≡ b → (signed t.negative a +ℤ signed u.negative b) ≤ℤ c → (term_value x t +ℤ term_value x u) ≤ℤ c
of_sum t u x a b c e f h =
    subst (λ (y : ℤ). (signed t.negative y +ℤ signed u.negative (x u.variable)) ≤ℤ c) (sym e)
    (subst (λ (y : ℤ). (signed t.negative a +ℤ signed u.negative y) ≤ℤ c) (sym f) h)

-- a number that has grown by a step, and before that
more_one : (b : Bool) (a m s c : ℤ) → m ≡ a +ℤ s → signed b a ≤ℤ c → signed b m ≤ℤ (c +ℤ signed b s)
more_one true a m s c e h = omega (arith, ints)
more_one false a m s c e h = omega (arith, ints)

less_one : (b : Bool) (y s c : ℤ) → signed b y ≤ℤ (c +ℤ signed b s) → signed b (y -ℤ s) ≤ℤ c
less_one true y s c h = omega (arith, ints)
less_one false y s c h = omega (arith, ints)

more_first : (b : Bool) (a m s o c : ℤ) → m ≡ a +ℤ s → (signed b a +ℤ o) ≤ℤ c → (signed b m +ℤ o) ≤ℤ (c +ℤ signed b s)
more_first true a m s o c e h = omega (arith, ints)
more_first false a m s o c e h = omega (arith, ints)

less_first : (b : Bool) (y s o c : ℤ) → (signed b y +ℤ o) ≤ℤ (c +ℤ signed b s) → (signed b (y -ℤ s) +ℤ o) ≤ℤ c
less_first true y s o c h = omega (arith, ints)
less_first false y s o c h = omega (arith, ints)

more_second : (b : Bool) (a m s o c : ℤ) → m ≡ a +ℤ s → (o +ℤ signed b a) ≤ℤ c → (o +ℤ signed b m) ≤ℤ (c +ℤ signed b s)
more_second true a m s o c e h = omega (arith, ints)
more_second false a m s o c e h = omega (arith, ints)

less_second : (b : Bool) (y s o c : ℤ) → (o +ℤ signed b y) ≤ℤ (c +ℤ signed b s) → (o +ℤ signed b (y -ℤ s)) ≤ℤ c
less_second true y s o c h = omega (arith, ints)
less_second false y s o c h = omega (arith, ints)

back_to : (y x s : ℤ) → x ≡ y -ℤ s → y ≡ (x +ℤ pos 0) +ℤ s
back_to y x s e = omega (arith, ints)

value_of : (z x s : ℤ) → z ≡ (x +ℤ pos 0) +ℤ s → z ≡ x +ℤ s
value_of z x s e = omega (arith, ints)

module _ (S : Type 0) (pairs : Bool) (holds : S → Point → Type 0) (shape_of : S → Shape) (laws : Laws S pairs holds shape_of) (old new : S) (v : ℕ) (hv : v < count_of (shape_of old)) (es : shape_of new ≡ shape_of old) where
  -- any number of a range: the point before has some number
  module _ (r : Interval) (k : Keeps holds shape_of new (Freed (holds old) v r)) (l : IsLeast holds shape_of new (Freed (holds old) v r)) (y : Point) (hy : holds new y) where
    met : (b : Bound) → IsBound pairs (shape_of old) b → ((m : Point) → Freed (holds old) v r m → Meets b m) → Meets b y
    met b ok all = reach S pairs holds shape_of laws new (Freed (holds old) v r) k l b (subst (λ (s : Shape). IsBound pairs s b) (sym es) ok) (λ m w. all m w.is) y hy

    some : ((q : Point) → holds old q → ⊥) → ⊥
    some none = met NoPoint tt (λ m w. none w.was w.point)

    in_range : Holds r (y.values v)
    in_range = record {
      above = above_low r.low (y.values v) (met (TermBelow (record { variable = v; negative = true }) (neg_ℤ r.low)) hv (λ m w. opposite r.low (m.values v) w.value.above));
      below = met (TermBelow (record { variable = v; negative = false }) r.high) hv (λ m w. w.value.below);
    }

    fits : Fits pairs (shape_of old) (holds old) (λ w. w ≢ v) y.values
    fits = record {
      term = λ t c ht o all. met (TermBelow t c) ht (λ m w. subst (λ (z : ℤ). signed t.negative z ≤ℤ c) (sym (w.others.numbers t.variable o)) (all w.was w.point));
      sum = λ on t u c ht hu ne ot ou all. met (SumBelow t u c) (on, ht, hu, ne)
          (λ m w. of_sum t u m.values (w.was.values t.variable) (w.was.values u.variable) c (w.others.numbers t.variable ot) (w.others.numbers u.variable ou) (all w.was w.point));
    }

    before_is : (z : ℤ) → Fits pairs (shape_of old) (holds old) (λ w. (w ≡ v) ⊎ (w ≢ v)) (moved y.values v z) → holds old (with_value y v z)
    before_is z g = laws.closed old (with_value y v z) all_met
      where
        all_met : MeetsAll pairs (shape_of old) (holds old) (with_value y v z)
        all_met NoPoint ok all = some all
        all_met (TermBelow t c) ok all = g.term t c ok (cases_eq t.variable v) all
        all_met (SumBelow t u c) ok all = g.sum ok.0 t u c ok.1 ok.2 ok.3 (cases_eq t.variable v) (cases_eq u.variable v) all
        all_met (CellIn a s) ok all = met (CellIn a s) ok (λ m w. subst (AllowsCell s) (sym (w.others.cells a)) (all w.was w.point))

    pub freed_not : (Freed (holds old) v r y → ⊥) → ⊥
    freed_not never = extended pairs (shape_of old) (holds old) (λ m h. laws.inside old m h) some (λ w. w ≢ v) y.values fits v hv
        (λ z g. never (record { was = with_value y v z; point = before_is z g; others = same_back y v z; value = in_range }))

  -- its own number and a step: the point before has a lesser one
  module _ (f : Form) (s : ℤ) (ef : f ≡ variable_form v false s) (k : Keeps holds shape_of new (Assigned (holds old) v f)) (l : IsLeast holds shape_of new (Assigned (holds old) v f)) (y : Point) (hy : holds new y) where
    reached : (b : Bound) → IsBound pairs (shape_of old) b → ((m : Point) → Assigned (holds old) v f m → Meets b m) → Meets b y
    reached b ok all = reach S pairs holds shape_of laws new (Assigned (holds old) v f) k l b (subst (λ (x : Shape). IsBound pairs x b) (sym es) ok) (λ m w. all m w.is) y hy

    grown_by : (m : Point) (w : Assigned (holds old) v f m) → m.values v ≡ w.was.values v +ℤ s
    grown_by m w = value_of (m.values v) (w.was.values v) s (subst (λ (x : Form). m.values v ≡ form_value w.was.values x) ef w.value)

    grown_at : (m : Point) (w : Assigned (holds old) v f m) (u : ℕ) → u ≡ v → m.values u ≡ w.was.values u +ℤ s
    grown_at m w u e = subst (λ (i : ℕ). m.values i ≡ w.was.values i +ℤ s) (sym e) (grown_by m w)

    here : (u : ℕ) → u ≡ v → (with_value y v (y.values v -ℤ s)).values u ≡ y.values u -ℤ s
    here u e = subst (λ (i : ℕ). (with_value y v (y.values v -ℤ s)).values i ≡ y.values i -ℤ s) (sym e) (moved-here y.values v (y.values v -ℤ s))

    there : (u : ℕ) → u ≢ v → (with_value y v (y.values v -ℤ s)).values u ≡ y.values u
    there u n = moved-there y.values v (y.values v -ℤ s) u n

    lesser_is : holds old (with_value y v (y.values v -ℤ s))
    lesser_is = laws.closed old (with_value y v (y.values v -ℤ s)) all_met
      where
        all_met : MeetsAll pairs (shape_of old) (holds old) (with_value y v (y.values v -ℤ s))
        all_met NoPoint ok all = reached NoPoint tt (λ m w. all w.was w.point)
        all_met (TermBelow t c) ok all = elim (cases_eq t.variable v) [
          | inl e ↦ subst (λ (z : ℤ). signed t.negative z ≤ℤ c) (sym (here t.variable e))
              (less_one t.negative (y.values t.variable) s c (reached (TermBelow t (c +ℤ signed t.negative s)) ok
              (λ m w. more_one t.negative (w.was.values t.variable) (m.values t.variable) s c (grown_at m w t.variable e) (all w.was w.point))))
          | inr n ↦ subst (λ (z : ℤ). signed t.negative z ≤ℤ c) (sym (there t.variable n))
              (reached (TermBelow t c) ok (λ m w. subst (λ (z : ℤ). signed t.negative z ≤ℤ c) (sym (w.others.numbers t.variable n)) (all w.was w.point)))
        ]
        all_met (SumBelow t u c) ok all = elim (cases_eq t.variable v) [
          | inl e ↦ elim (cases_eq u.variable v) [
            | inl i ↦ absurd (ok.3 (e ∙ sym i))
            | inr n ↦ of_sum t u (with_value y v (y.values v -ℤ s)).values (y.values t.variable -ℤ s) (y.values u.variable) c (here t.variable e) (there u.variable n)
                (less_first t.negative (y.values t.variable) s (term_value y.values u) c (reached (SumBelow t u (c +ℤ signed t.negative s)) ok
                (λ m w. more_first t.negative (w.was.values t.variable) (m.values t.variable) s (term_value m.values u) c (grown_at m w t.variable e)
                (subst (λ (z : ℤ). (term_value w.was.values t +ℤ signed u.negative z) ≤ℤ c) (sym (w.others.numbers u.variable n)) (all w.was w.point)))))
          ]
          | inr n ↦ elim (cases_eq u.variable v) [
            | inl e ↦ of_sum t u (with_value y v (y.values v -ℤ s)).values (y.values t.variable) (y.values u.variable -ℤ s) c (there t.variable n) (here u.variable e)
                (less_second u.negative (y.values u.variable) s (term_value y.values t) c (reached (SumBelow t u (c +ℤ signed u.negative s)) ok
                (λ m w. more_second u.negative (w.was.values u.variable) (m.values u.variable) s (term_value m.values t) c (grown_at m w u.variable e)
                (subst (λ (z : ℤ). (signed t.negative z +ℤ term_value w.was.values u) ≤ℤ c) (sym (w.others.numbers t.variable n)) (all w.was w.point)))))
            | inr i ↦ of_sum t u (with_value y v (y.values v -ℤ s)).values (y.values t.variable) (y.values u.variable) c (there t.variable n) (there u.variable i)
                (reached (SumBelow t u c) ok
                (λ m w. of_sum t u m.values (w.was.values t.variable) (w.was.values u.variable) c (w.others.numbers t.variable n) (w.others.numbers u.variable i) (all w.was w.point)))
          ]
        ]
        all_met (CellIn a r) ok all = reached (CellIn a r) ok (λ m w. subst (AllowsCell r) (sym (w.others.cells a)) (all w.was w.point))

    pub stepped : Assigned (holds old) v f y
    stepped = record {
      was = with_value y v (y.values v -ℤ s);
      point = lesser_is;
      others = same_back y v (y.values v -ℤ s);
      value = subst (λ (x : Form). y.values v ≡ form_value (with_value y v (y.values v -ℤ s)).values x) (sym ef) (back_to (y.values v) ((with_value y v (y.values v -ℤ s)).values v) s (moved-here y.values v (y.values v -ℤ s)));
    }
