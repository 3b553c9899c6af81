-- Least states that are carried to the next node, and carried states that change further.
use Rattle.std.proofs.Common.{◌≡◌, ◌≢◌, inl, inr, ℕ, ◌<◌, ℤ, ◌+ℤ◌, ◌-ℤ◌, ◌≤ℤ◌, Bool, [], length, Option, Some, None, refl, sym, ◌∙◌, ap, subst, arith}
use Rattle.std.specs.Prelude.{IsTrue}
use Rattle.std.proofs.lemmas.Int.{ints}
use Rattle.wm_arrays.specs.declared.summary.Summary.{Summary}
use Rattle.wm_domain.specs.declared.shape.Shape.{Shape}
use Rattle.wm_domain.specs.Points.{Point, AllowsCell}
use Rattle.wm_domain.specs.Forms.{signed, term_value}
use Rattle.wm_domain.specs.States.{count_of, array_count, InShape, Keeps, IsLeast}
use Rattle.wm_domain.specs.Bounds.{Bound, NoPoint, TermBelow, SumBelow, CellIn, Meets, IsBound, MeetsAll}
use Rattle.wm_carry.specs.Following.{origin, IsWay, Follows, FollowsCells, Carried, Moved}
use Rattle.wm_carry.specs.Following as following
use Rattle.wm_carry.proofs.Ranks.{side, Comes, Grouped, Single, comes_of, count_is, origin_below, origin_apart}
use Rattle.wm_carry.proofs.Changing.{come}
use Rattle.wm_carry.proofs.Extending.{stable_le}
use Rattle.wm_carry.proofs.Reaching.{Laws, Wanted, reach, through}
use Rattle.wm_carry.proofs.Exact.{after_point, after_inside, after_follows, cell_kept, cell_new, follows_one}

of_first : (a b c : ℤ) → (a +ℤ b) ≤ℤ c → a ≤ℤ (c -ℤ b)
of_first a b c h = omega (arith, ints)

to_first : (a b c : ℤ) → a ≤ℤ (c -ℤ b) → (a +ℤ b) ≤ℤ c
to_first a b c h = omega (arith, ints)

of_second : (a b c : ℤ) → (a +ℤ b) ≤ℤ c → b ≤ℤ (c -ℤ a)
of_second a b c h = omega (arith, ints)

to_second : (a b c : ℤ) → b ≤ℤ (c -ℤ a) → (a +ℤ b) ≤ℤ c
to_second a b c h = omega (arith, ints)

group_from : (s t : Shape) (v w : ℕ) → v < length t.group → origin s t v ≡ Some w → w < length s.group
group_from s t v w h e = by (comes_of s t v w e)
  where
    by : Comes s t v w → w < length s.group
    by (Grouped i k f) = k
    by (Single i k l f) = absurd (omega (arith, h, i))

one_from : (o : Option ℕ) (was : Point) (z : ℤ) → following.Comes was o z → z ≡ come o was z
one_from None was z h = refl
one_from (Some w) was z h = h

module _ (S : Type 0) (pairs : Bool) (holds : S → Point → Type 0) (shape_of : S → Shape) (laws : Laws S pairs holds shape_of) (s t : Shape) (way : IsWay s t) where
  -- each point of a carried state cannot but follow one of the state before
  pub carried_not : (at middle : S) → shape_of at ≡ s → shape_of middle ≡ t → Keeps holds shape_of middle (Moved s t (holds at) [] []) → IsLeast holds shape_of middle (Moved s t (holds at) [] [])
      → (p : Point) → holds middle p → (Moved s t (holds at) [] [] p → ⊥) → ⊥
  carried_not at middle ea em k l p h = follows_one pairs s t way (holds at)
      (λ m i. subst (λ (r : Shape). InShape r m) ea (laws.inside at m i))
      (λ x all. laws.closed at x (subst (λ (r : Shape). MeetsAll pairs r (holds at) x) (sym ea) all))
      p (subst (λ (r : Shape). InShape r p) em (laws.inside middle p h))
      (λ b ok all. reach S pairs holds shape_of laws middle (Moved s t (holds at) [] []) k l b (subst (λ (r : Shape). IsBound pairs r b) (sym em) ok)
      (λ x w. all x (record { inside = subst (λ (r : Shape). InShape r x) em w.inside; is = w.is })) p h)

  module _ (middle : S) (F : Point → Type 0) (em : shape_of middle ≡ s) (k : Keeps holds shape_of middle F) (l : IsLeast holds shape_of middle F) (y : Point) (yi : InShape t y) (x : Point) (hx : holds middle x) where
    -- what holds after each wanted point holds after x
    met_by : (b : Bound) → IsBound pairs s b → ((m : Point) → Wanted s F m → Meets b m) → Meets b x
    met_by b ok all = reach S pairs holds shape_of laws middle F k l b (subst (λ (r : Shape). IsBound pairs r b) (sym em) ok)
        (λ m w. all m (record { inside = subst (λ (r : Shape). InShape r m) em w.inside; is = w.is })) x hx

    always : (a c : ℤ) → ((m : Point) → Wanted s F m → a ≤ℤ c) → a ≤ℤ c
    always a c all = stable_le a c (λ never. met_by NoPoint tt (λ m w. never (all m w)))

    pull_term : (b : Bool) (v : ℕ) (z c : ℤ) (o : Option ℕ) → origin s t v ≡ o → ((m : Point) → Wanted s F m → signed b (come o m z) ≤ℤ c) → signed b (come o x z) ≤ℤ c
    pull_term b v z c None e all = always (signed b z) c all
    pull_term b v z c (Some w) e all = met_by (TermBelow (record { variable = w; negative = b }) c) (origin_below s t v w e) all

    pull_sum : IsTrue pairs → (a b : Bool) (u v : ℕ) (y z c : ℤ) (o i : Option ℕ) → u < length t.group → v < length t.group → u ≢ v → origin s t u ≡ o → origin s t v ≡ i
        → ((m : Point) → Wanted s F m → (signed a (come o m y) +ℤ signed b (come i m z)) ≤ℤ c) → (signed a (come o x y) +ℤ signed b (come i x z)) ≤ℤ c
    pull_sum on a b u v y z c None None hu hv ne eu ev all = always _ c all
    pull_sum on a b u v y z c None (Some w) hu hv ne eu ev all = to_second (signed a y) _ c (pull_term b v z (c -ℤ signed a y) (Some w) ev (λ m q. of_second (signed a y) _ c (all m q)))
    pull_sum on a b u v y z c (Some w) None hu hv ne eu ev all = to_first _ (signed b z) c (pull_term a u y (c -ℤ signed b z) (Some w) eu (λ m q. of_first _ (signed b z) c (all m q)))
    pull_sum on a b u v y z c (Some w) (Some q) hu hv ne eu ev all = met_by (SumBelow (record { variable = w; negative = a }) (record { variable = q; negative = b }) c)
        (on, group_from s t u w hu eu, group_from s t v q hv ev, λ e. ne (origin_apart s t u v q (eu ∙ ap Some e) ev)) all

    pull_cell : (a : ℕ) (r : Summary) → a < array_count t → ((m : Point) → Wanted s F m → AllowsCell r ((after_point s t m y).cells a)) → AllowsCell r ((after_point s t x y).cells a)
    pull_cell a r ha all = elim (side a (array_count s)) [
      | inl h ↦ subst (AllowsCell r) (sym (cell_kept s x a h)) (met_by (CellIn a r) h (λ m w. subst (AllowsCell r) (cell_kept s m a h) (all m w)))
      | inr h ↦ subst (AllowsCell r) (sym (cell_new s x a h)) tt
    ]

    pull : (b : Bound) → IsBound pairs t b → ((m : Point) → Wanted s F m → Meets b (after_point s t m y)) → Meets b (after_point s t x y)
    pull NoPoint ok all = met_by NoPoint tt all
    pull (TermBelow u c) ok all = pull_term u.negative u.variable (y.values u.variable) c (origin s t u.variable) refl all
    pull (SumBelow u r c) ok all = pull_sum ok.0 u.negative r.negative u.variable r.variable (y.values u.variable) (y.values r.variable) c (origin s t u.variable) (origin s t r.variable) ok.1 ok.2 ok.3 refl refl all
    pull (CellIn a r) ok all = pull_cell a r ok all

  of_group : (v : ℕ) → v < length t.group → v < count_of t
  of_group v h = subst (λ (n : ℕ). v < n) (sym (count_is t)) (omega (arith, h))

  after_cell : (x y : Point) → FollowsCells s t [] x y → (a : ℕ) → a < array_count t → y.cells a ≡ (after_point s t x y).cells a
  after_cell x y f a ha = elim (side a (array_count s)) [
    | inl h ↦ f.kept a ha h tt ∙ sym (cell_kept s x a h)
    | inr h ↦ f.new a ha h tt ∙ sym (cell_new s x a h)
  ]

  -- what follows x is as the point after it, as far as bounds tell
  met_after : (x y : Point) → Follows s t [] x y → FollowsCells s t [] x y → (b : Bound) → IsBound pairs t b → Meets b (after_point s t x y) → Meets b y
  met_after x y f g NoPoint ok h = h
  met_after x y f g (TermBelow u c) ok h = subst (λ (z : ℤ). signed u.negative z ≤ℤ c) (sym (one_from (origin s t u.variable) x (y.values u.variable) (f.numbers u.variable ok tt))) h
  met_after x y f g (SumBelow u r c) ok h =
      subst (λ (z : ℤ). (signed u.negative z +ℤ term_value y.values r) ≤ℤ c) (sym (one_from (origin s t u.variable) x (y.values u.variable) (f.numbers u.variable (of_group u.variable ok.1) tt)))
      (subst (λ (z : ℤ). (signed u.negative (come (origin s t u.variable) x (y.values u.variable)) +ℤ signed r.negative z) ≤ℤ c) (sym (one_from (origin s t r.variable) x (y.values r.variable) (f.numbers r.variable (of_group r.variable ok.2) tt))) h)
  met_after x y f g (CellIn a r) ok h = subst (AllowsCell r) (sym (after_cell x y g a ok)) h

  -- a least state that is carried is the least that holds what follows the wanted points
  pub moved_through : (middle state : S) (F : Point → Type 0) → shape_of middle ≡ s → shape_of state ≡ t → Keeps holds shape_of middle F → IsLeast holds shape_of middle F
      → IsLeast holds shape_of state (Moved s t (holds middle) [] []) → IsLeast holds shape_of state (Moved s t F [] [])
  moved_through middle state F em es k l ls = through S pairs holds shape_of laws state (Moved s t (holds middle) [] []) (Moved s t F [] [])
      (λ y w b ok all.
      let yi = subst (λ (r : Shape). InShape r y) es w.inside in
      let x = w.is.was in
      let bt = subst (λ (r : Shape). IsBound pairs r b) es ok in
      met_after x y w.is.carried.numbers w.is.carried.cells b bt
      (pull middle F em k l y yi x w.is.carried.point b bt
      (λ m q. all (after_point s t m y) (record {
        inside = subst (λ (r : Shape). InShape r (after_point s t m y)) (sym es) (after_inside s t m y way q.inside yi);
        is = record { was = m; carried = after_follows s t F m y q.is };
      }))))
      ls
