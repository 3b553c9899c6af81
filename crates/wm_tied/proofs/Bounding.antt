-- What is left where a sum of terms lies between two ends.
use Rattle.std.proofs.Common.{◌≡◌, ◌≢◌, ◌⊎◌, inl, inr, ℕ, ◌+◌, ◌-◌, ◌<◌, ◌≤◌, ℤ, pos, ◌≤ℤ◌, ◌<ℤ◌, ◌+ℤ◌, ◌-ℤ◌, neg_ℤ, List, [], ◌∷◌, ◌++◌, length, Option, Some, None, Bool, true, false, sym, ◌∙◌, ap, subst, arith, refl}
use Rattle.std.specs.Prelude.{◌↔◌, IsTrue}
use Rattle.std.proofs.lemmas.Bool.{cases_eq}
use Rattle.std.proofs.lemmas.Int.{ints}
use Rattle.wm_numbers.proofs.Order.{le_trans, le_of_eq, neg_mono}
use Rattle.wm_interval.specs.declared.Interval.{Interval}
use Rattle.wm_interval.specs.Holds.{Holds, IsHullOf}
use Rattle.wm_domain.specs.declared.form.Term.{Term}
use Rattle.wm_domain.specs.declared.form.Form.{Form}
use Rattle.wm_domain.specs.declared.form.Relation.{Relation}
use Rattle.wm_domain.specs.declared.shape.Shape.{Shape}
use Rattle.wm_domain.specs.Points.{Point, IsInside, SameBut}
use Rattle.wm_domain.specs.Forms.{signed, term_value, terms_value, form_value}
use Rattle.wm_domain.specs.Terms.{IsTermValue, Ranged, SumIn}
use Rattle.wm_domain.specs.Changes.{Kept, IsFormValue}
use Rattle.wm_domain.specs.States.{IsReached, IsCellTold, IsTold}
use Rattle.wm_domain.proofs.Moving.{term-but}
use Rattle.wm_domain.proofs.Placing.{Placing}
use Rattle.wm_domain.proofs.Sums as sums
use Rattle.wm_domain.proofs.Sums.{Cuts}
use Rattle.wm_spans.specs.Exact.{MeetsIn}
use Rattle.wm_spans.proofs.Forming.{meets_in, meets_of}
use Rattle.wm_tied.specs.Pointed.{TiedView, IsTied, In, HasPoint, InFull, shape_of}
use Rattle.wm_tied.specs.Leaving.{IsAlike, IsExactly, Inside, IsLeft}
use Rattle.wm_tied.proofs.Cutting.{in_full, exactly_none}
use Rattle.wm_tied.proofs.Forming.{placing_past}
use Rattle.wm_tied.proofs.Told.{own_told}

-- ---- what is told

cell_as : (P Q : Point → Type 0) (a : ℕ) (c : Option ℤ) → ((p : Point) → P p → Q p) → IsCellTold P a c → IsCellTold Q a c
cell_as P Q a None f h = tt
cell_as P Q a (Some z) f h = record { x = h.x; y = h.y; x_is = f h.x h.x_is; y_is = f h.y h.y_is; low = h.low; high = h.high; x_cell = h.x_cell; y_cell = h.y_cell; above = h.above; below = h.below }

pub told_as : (shape : Shape) (P Q : Point → Type 0) (p : Point) → ((q : Point) → P q → Q q) → IsTold true shape P p → IsTold true shape Q p
told_as shape P Q p f h = record {
  some = h.some;
  some_is = f h.some h.some_is;
  each = λ t ht. let r = h.each t ht in record { x = r.x; is = f r.x r.is; reaches = r.reaches };
  pair = λ on t u ht hu ne. let r = h.pair on t u ht hu ne in record { x = r.x; is = f r.x r.is; reaches = r.reaches };
  cells = λ a ha. cell_as P Q a (p.cells a) f (h.cells a ha);
}

pub left_as : (u : TiedView) (P Q : Point → Type 0) → ((q : Point) → P q → Q q) → ((q : Point) → Q q → P q) → IsLeft u P → IsLeft u Q
left_as u P Q f g l = record { kept = λ p i q. l.kept p i (g p q); told = λ p i. told_as (shape_of u) (Inside u P) (Inside u Q) p (λ q w. record { is = f q w.is; inside = w.inside }) (l.told p i) }

pub exactly_left : (u : TiedView) (P : Point → Type 0) → IsExactly u P → IsLeft u P
exactly_left u P x = record { kept = x.kept; told = λ p i. own_told u P p (x.made p i) (in_full u p i) }

further : (P : Point → Type 0) (f : (ℕ → ℤ) → ℤ) (p q : Point) → f p.values ≤ℤ f q.values → IsReached P f q → IsReached P f p
further P f p q h r = record { x = r.x; is = r.is; reaches = le_trans h r.reaches }

one_side : (b : Bool) (x y z : ℤ) → x ≤ℤ z → z ≤ℤ y → (signed b z ≤ℤ signed b x) ⊎ (signed b z ≤ℤ signed b y)
one_side true x y z h k = inl (neg_mono h)
one_side false x y z h k = inr k

past : (n t v : ℕ) → n ≤ v → t < n → t ≡ v → ⊥
past n t v h k e = omega arith

same_sum : (a b c d : ℤ) → a ≡ c → b ≡ d → (a +ℤ b) ≤ℤ (c +ℤ d)
same_sum a b c d e f = omega (arith, ints)

pub placing_told : (shape : Shape) (P : Point → Type 0) (v : ℕ) → length shape.group ≤ v → Placing (IsTold true shape P) v
placing_told shape P v lone = record {
  placed = λ p x y r hp hx hy s low high. record {
    some = hp.some;
    some_is = hp.some_is;
    each = λ t ht. elim (cases_eq t.variable v) [
      | inl e ↦ elim (one_side t.negative (x.values t.variable) (y.values t.variable) (r.values t.variable) (subst (λ (k : ℕ). x.values k ≤ℤ r.values k) (sym e) low) (subst (λ (k : ℕ). r.values k ≤ℤ y.values k) (sym e) high)) [
        | inl w ↦ further P (λ z. term_value z t) r x w (hx.each t ht)
        | inr w ↦ further P (λ z. term_value z t) r y w (hy.each t ht)
      ]
      | inr ne ↦ further P (λ z. term_value z t) r p (le_of_eq (term-but v p r t s ne)) (hp.each t ht)
    ];
    pair = λ on t u ht hu ne. further P (λ z. term_value z t +ℤ term_value z u) r p
        (same_sum (term_value r.values t) (term_value r.values u) (term_value p.values t) (term_value p.values u) (term-but v p r t s (past (length shape.group) t.variable v lone ht)) (term-but v p r u s (past (length shape.group) u.variable v lone hu)))
        (hp.pair on t u ht hu ne);
    cells = λ a ha. subst (IsCellTold P a) (sym (s.cells a)) (hp.cells a ha);
  };
}

pub moved_full : (s t : TiedView) (p : Point) → IsAlike s t → InFull s p → InFull t p
moved_full s t p a i =
    subst (λ (xs : List Interval). IsInside (xs ++ t.spans.full) t.spans.array_full p) (sym a.group)
    (subst (λ (xs : List Interval). IsInside (s.group ++ xs) t.spans.array_full p) (sym a.full) (subst (λ (xs : List Interval). IsInside (s.group ++ s.spans.full) xs p) (sym a.array_full) i))

-- ---- no term, and one

pub no_term_exactly : (s : TiedView) (r : Interval) → r.low ≤ℤ pos 0 → pos 0 ≤ℤ r.high → IsExactly s (SumIn (In s) [] r.low r.high)
no_term_exactly s r h k = record { made = λ p i. record { point = i; above = h; below = k }; kept = λ p f w. w.point }

pub above_exactly : (s t : TiedView) (r : Interval) → pos 0 <ℤ r.low → ((p : Point) → In t p → ⊥) → IsExactly t (SumIn (In s) [] r.low r.high)
above_exactly s t r h none = exactly_none t (SumIn (In s) [] r.low r.high) none (λ p f w. let a = w.above in omega (arith, ints))

pub below_exactly : (s t : TiedView) (r : Interval) → r.high <ℤ pos 0 → ((p : Point) → In t p → ⊥) → IsExactly t (SumIn (In s) [] r.low r.high)
below_exactly s t r h none = exactly_none t (SumIn (In s) [] r.low r.high) none (λ p f w. let a = w.below in omega (arith, ints))

pub one_exactly : (s t : TiedView) (w : Term) (r : Interval) → IsExactly t (Ranged (In s) w r.low r.high) → IsExactly t (SumIn (In s) (w ∷ []) r.low r.high)
one_exactly s t w r x = record {
  made = λ p i. let h = x.made p i in record { point = h.point; above = omega (arith, ints, h.above); below = omega (arith, ints, h.below) };
  kept = λ p f h. x.kept p f (record { point = h.point; above = omega (arith, ints, h.above); below = omega (arith, ints, h.below) });
}

-- ---- two terms, of which the second is of a variable past the group

pub ranged_to : (Has : Point → Type 0) (t : Term) (c : Interval) (low high : ℤ) (p : Point) → c.low ≡ low → c.high ≡ high → Ranged Has t c.low c.high p → Ranged Has t low high p
ranged_to Has t c low high p e f h = record { point = h.point; above = subst (λ (y : ℤ). y ≤ℤ term_value p.values t) e h.above; below = subst (λ (y : ℤ). term_value p.values t ≤ℤ y) f h.below }

pub ranged_of : (Has : Point → Type 0) (t : Term) (c : Interval) (low high : ℤ) (p : Point) → c.low ≡ low → c.high ≡ high → Ranged Has t low high p → Ranged Has t c.low c.high p
ranged_of Has t c low high p e f h = record { point = h.point; above = subst (λ (y : ℤ). y ≤ℤ term_value p.values t) (sym e) h.above; below = subst (λ (y : ℤ). term_value p.values t ≤ℤ y) (sym f) h.below }

sum_left : (l k low high a b : ℤ) → l ≤ℤ b → b ≤ℤ k → low ≤ℤ (a +ℤ (b +ℤ pos 0)) → (a +ℤ (b +ℤ pos 0)) ≤ℤ high → ((low -ℤ k) ≤ℤ a) × (a ≤ℤ (high -ℤ l))
sum_left l k low high a b h1 h2 h3 h4 = (omega (arith, ints), omega (arith, ints))

module _ (s s1 s2 : TiedView) (a b : Term) (r ra rb c1 c2 : Interval) (apart : a.variable ≢ b.variable) (single : length s.group ≤ b.variable) (inside : b.variable < length s.group + length s.spans.full)
    (b_range : HasPoint s → IsHullOf (IsTermValue (In s) b) rb) (l1 : c1.low ≡ r.low -ℤ rb.high) (h1 : c1.high ≡ r.high -ℤ rb.low)
    (al1 : IsAlike s s1) (e1 : IsExactly s1 (Ranged (In s) a c1.low c1.high))
    (a_range : HasPoint s1 → IsHullOf (IsTermValue (In s1) a) ra) (l2 : c2.low ≡ r.low -ℤ ra.high) (h2 : c2.high ≡ r.high -ℤ ra.low)
    (al2 : IsAlike s1 s2) (e2 : IsExactly s2 (Ranged (In s1) b c2.low c2.high)) where
  sum_first : (p : Point) → Ranged (In s) a (r.low -ℤ rb.high) (r.high -ℤ rb.low) p → In s1 p
  sum_first p w = e1.kept p (moved_full s s1 p al1 (in_full s p w.point)) (ranged_of (In s) a c1 (r.low -ℤ rb.high) (r.high -ℤ rb.low) p l1 h1 w)

  cuts : HasPoint s → HasPoint s1 → Cuts (In s) (In s1) (In s2) a b r.low r.high ra rb
  cuts x y = record {
    apart = apart;
    order = r.ordered;
    b_range = b_range x;
    first = λ p i. ranged_to (In s) a c1 (r.low -ℤ rb.high) (r.high -ℤ rb.low) p l1 h1 (e1.made p i);
    first_back = sum_first;
    a_range = a_range y;
    second = λ p i. ranged_to (In s1) b c2 (r.low -ℤ ra.high) (r.high -ℤ ra.low) p l2 h2 (e2.made p i);
    second_back = λ p w. e2.kept p (moved_full s1 s2 p al2 (in_full s1 p w.point)) (ranged_of (In s1) b c2 (r.low -ℤ ra.high) (r.high -ℤ ra.low) p l2 h2 w);
  }

  sum_in_first : (p : Point) → SumIn (In s) (a ∷ b ∷ []) r.low r.high p → In s1 p
  sum_in_first p w =
      let hull = b_range (record { point = p; is = w.point }) in
      let value : IsTermValue (In s) b (term_value p.values b) = record { x = p; is = w.point; gives = refl } in
      let n = sum_left rb.low rb.high r.low r.high (term_value p.values a) (term_value p.values b) (hull.low_is.least _ value) (hull.high_is.greatest _ value) w.above w.below in
      sum_first p (record { point = w.point; above = n.0; below = n.1 })

  pub apart_alike : IsAlike s s2
  apart_alike = record { group = al2.group ∙ al1.group; full = al2.full ∙ al1.full; array_full = al2.array_full ∙ al1.array_full }

  pub apart_fewer : (p : Point) → In s2 p → In s p
  apart_fewer p i = (e1.made p (e2.made p i).point).point

  pub apart_left : IsLeft s2 (SumIn (In s) (a ∷ b ∷ []) r.low r.high)
  apart_left = record {
    kept = λ p f w. sums.sum_kept (In s) (In s1) (In s2) a b r.low r.high ra rb (cuts (record { point = p; is = w.point }) (record { point = p; is = sum_in_first p w })) p w;
    told = λ p i.
        let one = (e2.made p i).point in
        let none = (e1.made p one).point in
        sums.sum_least (In s) (In s1) (In s2) a b r.low r.high ra rb (cuts (record { point = p; is = none }) (record { point = p; is = one })) (placing_past s b.variable single inside)
        (IsTold true (shape_of s2) (Inside s2 (SumIn (In s) (a ∷ b ∷ []) r.low r.high)))
        (placing_told (shape_of s2) (Inside s2 (SumIn (In s) (a ∷ b ∷ []) r.low r.high)) b.variable (subst (λ (xs : List Interval). length xs ≤ b.variable) (sym (al2.group ∙ al1.group)) single))
        (λ q w. own_told s2 (SumIn (In s) (a ∷ b ∷ []) r.low r.high) q w (moved_full s s2 q apart_alike (in_full s q w.point))) p i;
  }

-- the order of two terms does not matter
swap_sum : (a b : ℤ) → b +ℤ (a +ℤ pos 0) ≡ a +ℤ (b +ℤ pos 0)
swap_sum a b = omega (arith, ints)

swap_in : (Has : Point → Type 0) (a b : Term) (low high : ℤ) (p : Point) → SumIn Has (b ∷ a ∷ []) low high p → SumIn Has (a ∷ b ∷ []) low high p
swap_in Has a b low high p w =
    let e = swap_sum (term_value p.values a) (term_value p.values b) in
    record { point = w.point; above = subst (λ (z : ℤ). low ≤ℤ z) e w.above; below = subst (λ (z : ℤ). z ≤ℤ high) e w.below }

pub swapped_left : (u : TiedView) (Has : Point → Type 0) (a b : Term) (low high : ℤ) → IsLeft u (SumIn Has (b ∷ a ∷ []) low high) → IsLeft u (SumIn Has (a ∷ b ∷ []) low high)
swapped_left u Has a b low high l = left_as u (SumIn Has (b ∷ a ∷ []) low high) (SumIn Has (a ∷ b ∷ []) low high) (λ q w. swap_in Has a b low high q w) (λ q w. swap_in Has b a low high q w) l

-- ---- forms against 0

value_in : (Has : Point → Type 0) (f : Form) (values : Interval) → IsHullOf (IsFormValue Has f) values → (p : Point) → Has p → Holds values (form_value p.values f)
value_in Has f values h p i =
    let w : IsFormValue Has f (form_value p.values f) = record { x = p; is = i; gives = refl } in
    record { above = h.low_is.least _ w; below = h.high_is.greatest _ w }

module _ (s : TiedView) (f : Form) (r : Relation) (values : Interval) (hull : HasPoint s → IsHullOf (IsFormValue (In s) f) values) where
  hull_at : (p : Point) → In s p → IsHullOf (IsFormValue (In s) f) values
  hull_at p i = hull (record { point = p; is = i })

  pub all_made : ((y : ℤ) → Holds values y → MeetsIn values r y) → (p : Point) → In s p → Kept (In s) f r p
  all_made each p i = record { point = i; meets = meets_of (In s) f values r (form_value p.values f) (hull_at p i) (each _ (value_in (In s) f values (hull_at p i) p i)) }

  pub all_left : ((y : ℤ) → Holds values y → MeetsIn values r y) → IsLeft s (Kept (In s) f r)
  all_left each = record { kept = λ p i k. k.point; told = λ p i. own_told s (Kept (In s) f r) p (all_made each p i) (in_full s p i) }

  module _ (l : Interval) (each : (z : ℤ) → Holds values (z +ℤ f.constant) → Holds l z ↔ MeetsIn values r (z +ℤ f.constant)) where
    pub between_made : (p : Point) → SumIn (In s) f.terms l.low l.high p → Kept (In s) f r p
    between_made p w =
        let hu = hull_at p w.point in
        let m = (each (terms_value p.values f.terms) (value_in (In s) f values hu p w.point)).0 (record { above = w.above; below = w.below }) in
        record { point = w.point; meets = meets_of (In s) f values r (form_value p.values f) hu m }

    between_of : (p : Point) → Kept (In s) f r p → SumIn (In s) f.terms l.low l.high p
    between_of p k =
        let hu = hull_at p k.point in
        let w = (each (terms_value p.values f.terms) (value_in (In s) f values hu p k.point)).1 (meets_in (In s) f values r (form_value p.values f) hu k.meets) in
        record { point = k.point; above = w.above; below = w.below }

    pub between_left : (t : TiedView) → IsLeft t (SumIn (In s) f.terms l.low l.high) → IsLeft t (Kept (In s) f r)
    between_left t x = left_as t (SumIn (In s) f.terms l.low l.high) (Kept (In s) f r) between_made between_of x
