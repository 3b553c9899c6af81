-- What is left of sums and of numbers near a term: the points are kept, and each that is left lies between points.
use Rattle.std.proofs.Common.{◌≡◌, ◌≢◌, ◌⊎◌, inl, inr, ℕ, ◌<◌, ℤ, pos, ◌≤ℤ◌, ◌<ℤ◌, ◌+ℤ◌, ◌-ℤ◌, List, [], ◌∷◌, length, Bool, false, true, sym, ◌∙◌, ap, subst, refl, arith, Some, None, Option}
use Rattle.std.specs.Prelude.{◌↔◌}
use Rattle.std.proofs.lemmas.Int.{ints}
use Rattle.std.proofs.lemmas.Bool.{cases_eq}
use Rattle.wm_numbers.proofs.Order.{le_trans, le_of_eq, neg_mono}
use Rattle.wm_numbers.specs.Within.{Within}
use Rattle.wm_interval.specs.declared.Interval.{Interval}
use Rattle.wm_interval.specs.Holds.{Holds, IsHullOf, InBoth}
use Rattle.wm_domain.specs.declared.form.Term.{Term}
use Rattle.wm_domain.specs.Points.{Point, range_at, IsInside, SameBut, AllowsCell}
use Rattle.wm_domain.specs.Forms.{signed, term_value}
use Rattle.wm_domain.specs.Terms.{IsTermValue, Ranged, SumIn, NearTerm}
use Rattle.wm_domain.specs.Changes.{Freed}
use Rattle.wm_domain.specs.States.{IsReached, IsCellTold}
use Rattle.wm_domain.proofs.Moving.{term-but}
use Rattle.wm_domain.proofs.Placing.{Placing}
use Rattle.wm_domain.proofs.Sums.{Cuts, sum_kept, sum_least}
use Rattle.wm_domain.proofs.Nears.{NearCuts, near_kept, near_least}
use Rattle.wm_spans.specs.Spanned.{Spanned, Lies, In}
use Rattle.wm_spans.specs.Exact.{Exactly, IsSpanned, NearIn}
use Rattle.wm_spans.proofs.Listed.{in_full, lies_holds, not_both}
use Rattle.wm_spans.proofs.Ends.{in_but}
use Rattle.wm_spans.proofs.Raising.{own_spanned}

-- ---- points between points

further : (P : Point → Type 0) (f : (ℕ → ℤ) → ℤ) (p q : Point) → f p.values ≤ℤ f q.values → IsReached P f q → IsReached P f p
further P f p q h r = record { x = r.x; is = r.is; reaches = le_trans h r.reaches }

one_side : (b : Bool) (x y z : ℤ) → x ≤ℤ z → z ≤ℤ y → (signed b z ≤ℤ signed b x) ⊎ (signed b z ≤ℤ signed b y)
one_side true x y z h k = inl (neg_mono h)
one_side false x y z h k = inr k

pub placing_spanned : (n m : ℕ) (P : Point → Type 0) (v : ℕ) → Placing (IsSpanned n m P) v
placing_spanned n m P v = record {
  placed = λ p x y r hp hx hy s low high. record {
    some = hp.some;
    some_is = hp.some_is;
    each = λ t ht. elim (cases_eq t.variable v) [
      | inl e ↦ elim (one_side t.negative (x.values t.variable) (y.values t.variable) (r.values t.variable) (subst (λ (k : ℕ). x.values k ≤ℤ r.values k) (sym e) low) (subst (λ (k : ℕ). r.values k ≤ℤ y.values k) (sym e) high)) [
        | inl w ↦ further P (λ z. term_value z t) r x w (hx.each t ht)
        | inr w ↦ further P (λ z. term_value z t) r y w (hy.each t ht)
      ]
      | inr ne ↦ further P (λ z. term_value z t) r p (le_of_eq (term-but v p r t s ne)) (hp.each t ht)
    ];
    cells = λ a ha. subst (IsCellTold P a) (sym (s.cells a)) (hp.cells a ha);
  };
}

pub placing_in : (s : Spanned) (v : ℕ) → v < length s.full → Placing (In s) v
placing_in s v hv = record {
  placed = λ p x y r hp hx hy b low high. in_but s p r v hp b (record { above = le_trans (hx.numbers v hv).above low; below = le_trans high (hy.numbers v hv).below });
}

cell_as : (P Q : Point → Type 0) (a : ℕ) (c : Option ℤ) → ((p : Point) → P p → Q p) → IsCellTold P a c → IsCellTold Q a c
cell_as P Q a None f h = tt
cell_as P Q a (Some z) f h = record { x = h.x; y = h.y; x_is = f h.x h.x_is; y_is = f h.y h.y_is; low = h.low; high = h.high; x_cell = h.x_cell; y_cell = h.y_cell; above = h.above; below = h.below }

pub spanned_as : (n m : ℕ) (P Q : Point → Type 0) (p : Point) → ((q : Point) → P q → Q q) → IsSpanned n m P p → IsSpanned n m Q p
spanned_as n m P Q p f h = record {
  some = h.some;
  some_is = f h.some h.some_is;
  each = λ t ht. let r = h.each t ht in record { x = r.x; is = f r.x r.is; reaches = r.reaches };
  cells = λ a ha. cell_as P Q a (p.cells a) f (h.cells a ha);
}

-- the same full ranges
pub moved_in : (s t : Spanned) (p : Point) → t.full ≡ s.full → t.array_full ≡ s.array_full → IsInside s.full s.array_full p → IsInside t.full t.array_full p
moved_in s t p f g i = subst (λ (xs : List Interval). IsInside xs t.array_full p) (sym f) (subst (λ (xs : List Interval). IsInside s.full xs p) (sym g) i)

ranged_to : (Has : Point → Type 0) (t : Term) (c : Interval) (low high : ℤ) (p : Point) → c.low ≡ low → c.high ≡ high → Ranged Has t c.low c.high p → Ranged Has t low high p
ranged_to Has t c low high p e f h = record { point = h.point; above = subst (λ (y : ℤ). y ≤ℤ term_value p.values t) e h.above; below = subst (λ (y : ℤ). term_value p.values t ≤ℤ y) f h.below }

ranged_of : (Has : Point → Type 0) (t : Term) (c : Interval) (low high : ℤ) (p : Point) → c.low ≡ low → c.high ≡ high → Ranged Has t low high p → Ranged Has t c.low c.high p
ranged_of Has t c low high p e f h = record { point = h.point; above = subst (λ (y : ℤ). y ≤ℤ term_value p.values t) (sym e) h.above; below = subst (λ (y : ℤ). term_value p.values t ≤ℤ y) (sym f) h.below }

true_or : (b : Bool) → (b ≡ true) ⊎ (b ≡ false)
true_or true = inl refl
true_or false = inr refl

bare_of : {P : Type 0} (s : Spanned) (p : Point) → s.empty ≡ true → In s p → P
bare_of s p e i = not_both (sym e ∙ i.some)

-- ---- a sum

sum_left : (l k low high a b : ℤ) → l ≤ℤ b → b ≤ℤ k → low ≤ℤ (a +ℤ (b +ℤ pos 0)) → (a +ℤ (b +ℤ pos 0)) ≤ℤ high → ((low -ℤ k) ≤ℤ a) × (a ≤ℤ (high -ℤ l))
sum_left l k low high a b h1 h2 h3 h4 = (omega (arith, ints), omega (arith, ints))

module _ (s s1 s2 : Spanned) (a b : Term) (r ra rb c1 c2 : Interval) (apart : a.variable ≢ b.variable) (inside : b.variable < length s.full)
    (b_range : s.empty ≡ false → IsHullOf (IsTermValue (In s) b) rb) (l1 : c1.low ≡ r.low -ℤ rb.high) (h1 : c1.high ≡ r.high -ℤ rb.low)
    (f1 : s1.full ≡ s.full) (g1 : s1.array_full ≡ s.array_full) (e1 : Exactly s1 (Ranged (In s) a c1.low c1.high))
    (a_range : s1.empty ≡ false → IsHullOf (IsTermValue (In s1) a) ra) (l2 : c2.low ≡ r.low -ℤ ra.high) (h2 : c2.high ≡ r.high -ℤ ra.low)
    (f2 : s2.full ≡ s1.full) (g2 : s2.array_full ≡ s1.array_full) (e2 : Exactly s2 (Ranged (In s1) b c2.low c2.high)) where
  sum_first : (p : Point) → Ranged (In s) a (r.low -ℤ rb.high) (r.high -ℤ rb.low) p → In s1 p
  sum_first p w = e1.kept p (moved_in s s1 p f1 g1 (in_full s p w.point)) (ranged_of (In s) a c1 (r.low -ℤ rb.high) (r.high -ℤ rb.low) p l1 h1 w)

  cuts : s.empty ≡ false → s1.empty ≡ false → Cuts (In s) (In s1) (In s2) a b r.low r.high ra rb
  cuts es e = record {
    apart = apart;
    order = r.ordered;
    b_range = b_range es;
    first = λ p i. ranged_to (In s) a c1 (r.low -ℤ rb.high) (r.high -ℤ rb.low) p l1 h1 (e1.made p i);
    first_back = sum_first;
    a_range = a_range e;
    second = λ p i. ranged_to (In s1) b c2 (r.low -ℤ ra.high) (r.high -ℤ ra.low) p l2 h2 (e2.made p i);
    second_back = λ p w. e2.kept p (moved_in s1 s2 p f2 g2 (in_full s1 p w.point)) (ranged_of (In s1) b c2 (r.low -ℤ ra.high) (r.high -ℤ ra.low) p l2 h2 w);
  }

  sum_in_first : (p : Point) → SumIn (In s) (a ∷ b ∷ []) r.low r.high p → In s1 p
  sum_in_first p w =
      let hull = b_range w.point.some in
      let value : IsTermValue (In s) b (term_value p.values b) = record { x = p; is = w.point; gives = refl } in
      let n = sum_left rb.low rb.high r.low r.high (term_value p.values a) (term_value p.values b) (hull.low_is.least _ value) (hull.high_is.greatest _ value) w.above w.below in
      sum_first p (record { point = w.point; above = n.0; below = n.1 })

  pub two_kept : (p : Point) → SumIn (In s) (a ∷ b ∷ []) r.low r.high p → In s2 p
  two_kept p w = sum_kept (In s) (In s1) (In s2) a b r.low r.high ra rb (cuts w.point.some (sum_in_first p w).some) p w

  pub two_spanned : (p : Point) → In s2 p → IsSpanned (length s.full) (length s.array_full) (SumIn (In s) (a ∷ b ∷ []) r.low r.high) p
  two_spanned p i =
      let one = (e2.made p i).point in
      let none = (e1.made p one).point in
      sum_least (In s) (In s1) (In s2) a b r.low r.high ra rb (cuts none.some one.some) (placing_in s b.variable inside)
      (IsSpanned (length s.full) (length s.array_full) (SumIn (In s) (a ∷ b ∷ []) r.low r.high))
      (placing_spanned (length s.full) (length s.array_full) (SumIn (In s) (a ∷ b ∷ []) r.low r.high) b.variable)
      (λ q w. own_spanned (length s.full) (length s.array_full) (SumIn (In s) (a ∷ b ∷ []) r.low r.high) q w) p i

-- ---- none and one term

pub no_term_kept : (s : Spanned) (r : Interval) (p : Point) → SumIn (In s) [] r.low r.high p → In s p
no_term_kept s r p w = w.point

pub no_term_spanned : (s : Spanned) (r : Interval) → r.low ≤ℤ pos 0 → pos 0 ≤ℤ r.high → (p : Point) → In s p → IsSpanned (length s.full) (length s.array_full) (SumIn (In s) [] r.low r.high) p
no_term_spanned s r h k p i = own_spanned (length s.full) (length s.array_full) (SumIn (In s) [] r.low r.high) p (record { point = i; above = h; below = k })

pub one_kept : (s t : Spanned) (w : Term) (r : Interval) → t.full ≡ s.full → t.array_full ≡ s.array_full → Exactly t (Ranged (In s) w r.low r.high) → (p : Point) → SumIn (In s) (w ∷ []) r.low r.high p → In t p
one_kept s t w r f g e p h = e.kept p (moved_in s t p f g (in_full s p h.point)) (record { point = h.point; above = omega (arith, ints, h.above); below = omega (arith, ints, h.below) })

pub no_term_made : (s : Spanned) (r : Interval) → r.low ≤ℤ pos 0 → pos 0 ≤ℤ r.high → (p : Point) → In s p → SumIn (In s) [] r.low r.high p
no_term_made s r h k p i = record { point = i; above = h; below = k }

pub one_made : (s t : Spanned) (w : Term) (r : Interval) → Exactly t (Ranged (In s) w r.low r.high) → (p : Point) → In t p → SumIn (In s) (w ∷ []) r.low r.high p
one_made s t w r e p i =
    let h = e.made p i in
    record { point = h.point; above = omega (arith, ints, h.above); below = omega (arith, ints, h.below) }

-- two cuts keep points alone
pub twice_fewer : (s t u : Spanned) (a b : Term) (l1 h1 l2 h2 : ℤ) → Exactly t (Ranged (In s) a l1 h1) → Exactly u (Ranged (In t) b l2 h2) → (p : Point) → In u p → In s p
twice_fewer s t u a b l1 h1 l2 h2 e f p i = (e.made p (f.made p i).point).point

pub one_spanned : (s t : Spanned) (w : Term) (r : Interval) → Exactly t (Ranged (In s) w r.low r.high) → (p : Point) → In t p → IsSpanned (length s.full) (length s.array_full) (SumIn (In s) (w ∷ []) r.low r.high) p
one_spanned s t w r e p i =
    let h = e.made p i in
    own_spanned (length s.full) (length s.array_full) (SumIn (In s) (w ∷ []) r.low r.high) p (record { point = h.point; above = omega (arith, ints, h.above); below = omega (arith, ints, h.below) })

-- ---- a number near a term

near_left : (l k dl dk t z : ℤ) → l ≤ℤ z → z ≤ℤ k → dl ≤ℤ (z -ℤ t) → (z -ℤ t) ≤ℤ dk → ((l -ℤ dk) ≤ℤ t) × (t ≤ℤ (k -ℤ dl))
near_left l k dl dk t z h1 h2 h3 h4 = (omega (arith, ints), omega (arith, ints))

near_right : (m n dl dk t z : ℤ) → m ≤ℤ t → t ≤ℤ n → dl ≤ℤ (z -ℤ t) → (z -ℤ t) ≤ℤ dk → ((m +ℤ dl) ≤ℤ z) × (z ≤ℤ (n +ℤ dk))
near_right m n dl dk t z h1 h2 h3 h4 = (omega (arith, ints), omega (arith, ints))

module _ (s s1 : Spanned) (v : ℕ) (t : Term) (d r rt c1 c2 : Interval) (inside : v < length s.full) (lies : Lies (range_at s.full v) r)
    (l1 : c1.low ≡ r.low -ℤ d.high) (h1 : c1.high ≡ r.high -ℤ d.low)
    (f1 : s1.full ≡ s.full) (g1 : s1.array_full ≡ s.array_full) (e1 : Exactly s1 (Ranged (In s) t c1.low c1.high))
    (t_range : s1.empty ≡ false → IsHullOf (IsTermValue (In s1) t) rt) (l2 : c2.low ≡ rt.low +ℤ d.low) (h2 : c2.high ≡ rt.high +ℤ d.high) where
  near_first : (p : Point) → Ranged (In s) t (r.low -ℤ d.high) (r.high -ℤ d.low) p → In s1 p
  near_first p w = e1.kept p (moved_in s s1 p f1 g1 (in_full s p w.point)) (ranged_of (In s) t c1 (r.low -ℤ d.high) (r.high -ℤ d.low) p l1 h1 w)

  near_in_first : (p : Point) (n : NearTerm (In s) v t d r p) → In s1 n.was
  near_in_first p n =
      let b = near_left r.low r.high d.low d.high (term_value n.was.values t) (p.values v) n.value.above n.value.below n.near.above n.near.below in
      near_first n.was (record { point = n.point; above = b.0; below = b.1 })

  -- the number lies in the sum of the term's range and of the differences
  near_in_sum : (p : Point) → NearTerm (In s) v t d r p → Holds c2 (p.values v)
  near_in_sum p n =
      let i = near_in_first p n in
      let hull = t_range i.some in
      let value : IsTermValue (In s1) t (term_value n.was.values t) = record { x = n.was; is = i; gives = refl } in
      let b = near_right rt.low rt.high d.low d.high (term_value n.was.values t) (p.values v) (hull.low_is.least _ value) (hull.high_is.greatest _ value) n.near.above n.near.below in
      record { above = subst (λ (y : ℤ). y ≤ℤ p.values v) (sym l2) b.0; below = subst (λ (y : ℤ). p.values v ≤ℤ y) (sym h2) b.1 }

  near_inside : (p : Point) → NearTerm (In s) v t d r p → IsInside s.full s.array_full p
  near_inside p n =
      let w = in_full s n.was n.point in
      record {
        numbers = λ u hu. elim (cases_eq u v) [
          | inl e ↦ subst (λ (k : ℕ). Holds (range_at s.full k) (p.values k)) (sym e) (lies_holds (range_at s.full v) r (p.values v) lies n.value)
          | inr ne ↦ subst (Holds (range_at s.full u)) (sym (n.others.numbers u ne)) (w.numbers u hu)
        ];
        set_cells = λ a z ha e. w.set_cells a z ha (sym (n.others.cells a) ∙ e);
      }

  pub near_none_kept : ((z : ℤ) → InBoth c2 r z → ⊥) → (p : Point) → NearIn s v t d r p → In (record s1 { empty = true }) p
  near_none_kept none p n = absurd (none (p.values v) (near_in_sum p n.near, n.near.value))

  module _ (s2 : Spanned) (now : Interval) (each : (z : ℤ) → Holds now z ↔ InBoth c2 r z) (f2 : s2.full ≡ s1.full) (g2 : s2.array_full ≡ s1.array_full) (e2 : Exactly s2 (Freed (In s1) v now)) where
    near_cuts : s1.empty ≡ false → NearCuts (In s) (In s1) t d r rt now
    near_cuts e = record {
      first = λ p i. ranged_to (In s) t c1 (r.low -ℤ d.high) (r.high -ℤ d.low) p l1 h1 (e1.made p i);
      first_back = near_first;
      w_range = t_range e;
      now_is = λ z h. let b = (each z).0 h in (b.1, record { above = subst (λ (y : ℤ). y ≤ℤ z) l2 b.0.above; below = subst (λ (y : ℤ). z ≤ℤ y) h2 b.0.below });
      now_back = λ z h w. (each z).1 (record { above = subst (λ (y : ℤ). y ≤ℤ z) (sym l2) w.above; below = subst (λ (y : ℤ). z ≤ℤ y) (sym h2) w.below }, h);
    }

    pub near_some_kept : (p : Point) → NearIn s v t d r p → In s2 p
    near_some_kept p n = e2.kept p (moved_in s1 s2 p f2 g2 (moved_in s s1 p f1 g1 n.inside)) (near_kept (In s) (In s1) v t d r rt now (near_cuts (near_in_first p n.near).some) p n.near)

    pub near_some_spanned : (p : Point) → In s2 p → IsSpanned (length s.full) (length s.array_full) (NearIn s v t d r) p
    near_some_spanned p i =
        let f = e2.made p i in
        near_least (In s) (In s1) v t d r rt now (near_cuts f.point.some)
        (IsSpanned (length s.full) (length s.array_full) (NearIn s v t d r))
        (placing_spanned (length s.full) (length s.array_full) (NearIn s v t d r) v)
        (λ q w. own_spanned (length s.full) (length s.array_full) (NearIn s v t d r) q (record { near = w; inside = near_inside q w })) p f

-- a number of a range that lies in the full one lies in the common part
pub near_fit : (s : Spanned) (v : ℕ) (t : Term) (d r fit : Interval) → v < length s.full → ((z : ℤ) → Holds fit z ↔ InBoth (range_at s.full v) r z) → (p : Point) → NearIn s v t d r p → NearIn s v t d fit p
near_fit s v t d r fit hv each p n = record {
  near = record { was = n.near.was; point = n.near.point; others = n.near.others; value = (each (p.values v)).1 (n.inside.numbers v hv, n.near.value); near = n.near.near };
  inside = n.inside;
}

pub near_unfit : (s : Spanned) (v : ℕ) (t : Term) (d r fit : Interval) → ((z : ℤ) → Holds fit z ↔ InBoth (range_at s.full v) r z) → (p : Point) → NearIn s v t d fit p → NearIn s v t d r p
near_unfit s v t d r fit each p n = record {
  near = record { was = n.near.was; point = n.near.point; others = n.near.others; value = ((each (p.values v)).0 n.near.value).1; near = n.near.near };
  inside = n.inside;
}

-- no point was left
pub cleared_spanned : (s t : Spanned) (n m : ℕ) (P : Point → Type 0) → t ≡ record s { empty = true } → (p : Point) → In t p → IsSpanned n m P p
cleared_spanned s t n m P e p i = not_both (sym (ap (λ (u : Spanned). u.empty) e) ∙ i.some)

pub cleared_none : (s t : Spanned) (P : Point → Type 0) → t ≡ record s { empty = true } → (p : Point) → In t p → P p
cleared_none s t P e p i = not_both (sym (ap (λ (u : Spanned). u.empty) e) ∙ i.some)

pub above_none : (s t : Spanned) (r : Interval) → pos 0 <ℤ r.low → (p : Point) → SumIn (In s) [] r.low r.high p → In t p
above_none s t r h p w = absurd (let a = w.above in omega (arith, ints))

pub below_none : (s t : Spanned) (r : Interval) → r.high <ℤ pos 0 → (p : Point) → SumIn (In s) [] r.low r.high p → In t p
below_none s t r h p w = absurd (let a = w.below in omega (arith, ints))

-- ---- the same, as the code has it: x is the full range that was found

module _ (s t : Spanned) (v : ℕ) (w : Term) (d r x : Interval) (hv : v < length s.full) (found : x ≡ range_at s.full v) where
  pub near_lost_kept : ((z : ℤ) → InBoth x r z → ⊥) → (p : Point) → NearIn s v w d r p → In t p
  near_lost_kept none p n = absurd (none (p.values v) (subst (λ (y : Interval). Holds y (p.values v)) (sym found) (n.inside.numbers v hv), n.near.value))

  module _ (fit : Interval) (each : (z : ℤ) → Holds fit z ↔ InBoth x r z) where
    fit_each : (z : ℤ) → Holds fit z ↔ InBoth (range_at s.full v) r z
    fit_each = subst (λ (y : Interval). (z : ℤ) → Holds fit z ↔ InBoth y r z) found each

    pub near_found_kept : ((p : Point) → NearIn s v w d fit p → In t p) → (p : Point) → NearIn s v w d r p → In t p
    near_found_kept kept p n = kept p (near_fit s v w d r fit hv fit_each p n)

    pub near_found_spanned : ((p : Point) → In t p → IsSpanned (length s.full) (length s.array_full) (NearIn s v w d fit) p) → (p : Point) → In t p → IsSpanned (length s.full) (length s.array_full) (NearIn s v w d r) p
    near_found_spanned spanned p i = spanned_as (length s.full) (length s.array_full) (NearIn s v w d fit) (NearIn s v w d r) p (λ q n. near_unfit s v w d r fit fit_each q n) (spanned p i)
