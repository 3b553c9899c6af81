-- Values, tests and assignments of forms.
use Rattle.std.proofs.Common.{◌≡◌, ◌≢◌, ◌⊎◌, inl, inr, ℕ, ◌<◌, ℤ, pos, ◌≤ℤ◌, ◌+ℤ◌, ◌-ℤ◌, List, [], ◌∷◌, length, Bool, false, true, sym, ◌∙◌, ap, subst, refl, arith, Some, None, Option}
use Rattle.std.specs.Prelude.{◌↔◌}
use Rattle.std.proofs.lemmas.Int.{ints}
use Rattle.wm_numbers.specs.Within.{Within}
use Rattle.wm_numbers.proofs.Order.{le_of_eq, le_antisym, le_or_lt}
use Rattle.wm_interval.specs.declared.Interval.{Interval}
use Rattle.wm_interval.specs.Holds.{Holds, IsHullOf}
use Rattle.wm_domain.specs.declared.form.Term.{Term}
use Rattle.wm_domain.specs.declared.form.Form.{Form}
use Rattle.wm_domain.specs.declared.form.Relation.{Relation}
use Rattle.wm_domain.specs.declared.form.Relation.TheVariants.{AtMost, Equal, NotEqual}
use Rattle.wm_domain.specs.Points.{Point, range_at, IsInside, SameBut}
use Rattle.wm_domain.specs.Forms.{term_value, terms_value, form_value}
use Rattle.wm_domain.specs.Terms.{IsTermValue, SumIn, NearTerm}
use Rattle.wm_domain.specs.Changes.{Kept, Meets, IsSided, Assigned, Freed, IsFormValue}
use Rattle.wm_domain.proofs.Moving.{with_value, with_value-but, moved-here, term-but}
use Rattle.wm_domain.proofs.Placing.{Placing, placed_term}
use Rattle.wm_spans.specs.Spanned.{Spanned, In}
use Rattle.wm_spans.specs.Exact.{Exactly, IsSpanned, NearIn, Inside, Leaves, IsSumValue, MeetsIn}
use Rattle.wm_spans.proofs.Listed.{in_full}
use Rattle.wm_spans.proofs.Ends.{lowest, lowest_in}
use Rattle.wm_spans.proofs.Raising.{own_spanned}
use Rattle.wm_spans.proofs.Summing.{placing_in, spanned_as, moved_in}

-- ---- the values of a sum and of a form

pub no_term_hull : (Has : Point → Type 0) (p : Point) (r : Interval) → Has p → r.low ≡ pos 0 → r.high ≡ pos 0 → IsHullOf (IsSumValue Has []) r
no_term_hull Has p r h e f = record {
  low_is = record { attained = record { x = p; is = h; gives = sym e }; least = λ z w. le_of_eq (e ∙ w.gives) };
  high_is = record { attained = record { x = p; is = h; gives = sym f }; greatest = λ z w. le_of_eq (sym w.gives ∙ sym f) };
}

plus_zero : (x : ℤ) → x +ℤ pos 0 ≡ x
plus_zero x = omega (arith, ints)

pub one_term_hull : (Has : Point → Type 0) (t : Term) (r : Interval) → IsHullOf (IsTermValue Has t) r → IsHullOf (IsSumValue Has (t ∷ [])) r
one_term_hull Has t r h = record {
  low_is = record { attained = to_sum r.low h.low_is.attained; least = λ z w. h.low_is.least z (of_sum z w) };
  high_is = record { attained = to_sum r.high h.high_is.attained; greatest = λ z w. h.high_is.greatest z (of_sum z w) };
}
  where
    to_sum : (z : ℤ) → IsTermValue Has t z → IsSumValue Has (t ∷ []) z
    to_sum z w = record { x = w.x; is = w.is; gives = plus_zero (term_value w.x.values t) ∙ w.gives }

    of_sum : (z : ℤ) → IsSumValue Has (t ∷ []) z → IsTermValue Has t z
    of_sum z w = record { x = w.x; is = w.is; gives = sym (plus_zero (term_value w.x.values t)) ∙ w.gives }

sum_gives : (a b x y z : ℤ) → a ≡ x → b ≡ y → z ≡ x +ℤ y → a +ℤ (b +ℤ pos 0) ≡ z
sum_gives a b x y z e f g = omega (arith, ints)

sum_above : (a b l m z w : ℤ) → l ≤ℤ a → m ≤ℤ b → w ≡ l +ℤ m → a +ℤ (b +ℤ pos 0) ≡ z → w ≤ℤ z
sum_above a b l m z w h k e f = omega (arith, ints)

sum_below : (a b l m z w : ℤ) → a ≤ℤ l → b ≤ℤ m → w ≡ l +ℤ m → a +ℤ (b +ℤ pos 0) ≡ z → z ≤ℤ w
sum_below a b l m z w h k e f = omega (arith, ints)

-- two terms, of which the second is tied to no other variable
pub two_terms_hull : (Has : Point → Type 0) (a b : Term) (ra rb r : Interval) → a.variable ≢ b.variable → Placing Has b.variable → IsHullOf (IsTermValue Has a) ra → IsHullOf (IsTermValue Has b) rb
    → r.low ≡ ra.low +ℤ rb.low → r.high ≡ ra.high +ℤ rb.high → IsHullOf (IsSumValue Has (a ∷ b ∷ [])) r
two_terms_hull Has a b ra rb r apart law ha hb e f = record {
  low_is = record {
    attained = both ra.low rb.low r.low ha.low_is.attained hb.low_is.attained e;
    least = λ z w. sum_above (term_value w.x.values a) (term_value w.x.values b) ra.low rb.low z r.low (ha.low_is.least _ (value a w)) (hb.low_is.least _ (value b w)) e w.gives;
  };
  high_is = record {
    attained = both ra.high rb.high r.high ha.high_is.attained hb.high_is.attained f;
    greatest = λ z w. sum_below (term_value w.x.values a) (term_value w.x.values b) ra.high rb.high z r.high (ha.high_is.greatest _ (value a w)) (hb.high_is.greatest _ (value b w)) f w.gives;
  };
}
  where
    value : (t : Term) {z : ℤ} (w : IsSumValue Has (a ∷ b ∷ []) z) → IsTermValue Has t (term_value w.x.values t)
    value t w = record { x = w.x; is = w.is; gives = refl }

    both : (l m z : ℤ) → IsTermValue Has a l → IsTermValue Has b m → z ≡ l +ℤ m → IsSumValue Has (a ∷ b ∷ []) z
    both l m z u w g =
        let q = with_value u.x b.variable (w.x.values b.variable) in
        let here = moved-here u.x.values b.variable (w.x.values b.variable) in
        record {
          x = q;
          is = law.placed u.x w.x w.x q u.is w.is w.is (with_value-but u.x b.variable (w.x.values b.variable)) (le_of_eq (sym here)) (le_of_eq here);
          gives = sum_gives (term_value q.values a) (term_value q.values b) l m z
              (term-but b.variable u.x q a (with_value-but u.x b.variable (w.x.values b.variable)) apart ∙ u.gives)
              (ap (λ (y : ℤ). term_value (λ (k : ℕ). y) b) here ∙ w.gives) g;
        }

plus_low : (x c a l : ℤ) → a ≤ℤ x → l ≡ a +ℤ c → l ≤ℤ (x +ℤ c)
plus_low x c a l h e = omega (arith, ints)

plus_high : (x c a l : ℤ) → x ≤ℤ a → l ≡ a +ℤ c → (x +ℤ c) ≤ℤ l
plus_high x c a l h e = omega (arith, ints)

pub form_hull : (Has : Point → Type 0) (f : Form) (a r : Interval) → IsHullOf (IsSumValue Has f.terms) a → r.low ≡ a.low +ℤ f.constant → r.high ≡ a.high +ℤ f.constant → IsHullOf (IsFormValue Has f) r
form_hull Has f a r h e g = record {
  low_is = record {
    attained = let w = h.low_is.attained in record { x = w.x; is = w.is; gives = ap (λ (y : ℤ). y +ℤ f.constant) w.gives ∙ sym e };
    least = λ z w. subst (λ (y : ℤ). r.low ≤ℤ y) w.gives (plus_low (terms_value w.x.values f.terms) f.constant a.low r.low (h.low_is.least _ (record { x = w.x; is = w.is; gives = refl })) e);
  };
  high_is = record {
    attained = let w = h.high_is.attained in record { x = w.x; is = w.is; gives = ap (λ (y : ℤ). y +ℤ f.constant) w.gives ∙ sym g };
    greatest = λ z w. subst (λ (y : ℤ). y ≤ℤ r.high) w.gives (plus_high (terms_value w.x.values f.terms) f.constant a.high r.high (h.high_is.greatest _ (record { x = w.x; is = w.is; gives = refl })) g);
  };
}

-- ---- what a relation asks

sided_ends : (Has : Point → Type 0) (f : Form) (values : Interval) → IsHullOf (IsFormValue Has f) values → IsSided Has f → (pos 0 ≤ℤ values.low) ⊎ (values.high ≤ℤ pos 0)
sided_ends Has f values h s = elim s.side [
  | inl k ↦ inl (let w = h.low_is.attained in subst (λ (y : ℤ). pos 0 ≤ℤ y) w.gives (k w.x w.is))
  | inr k ↦ inr (let w = h.high_is.attained in subst (λ (y : ℤ). y ≤ℤ pos 0) w.gives (k w.x w.is))
]

ends_sided : (Has : Point → Type 0) (f : Form) (values : Interval) → IsHullOf (IsFormValue Has f) values → (pos 0 ≤ℤ values.low) ⊎ (values.high ≤ℤ pos 0) → IsSided Has f
ends_sided Has f values h (inl k) = record { side = inl (λ q w. through k (h.low_is.least _ (record { x = q; is = w; gives = refl }))) }
  where
    through : {x y z : ℤ} → x ≤ℤ y → y ≤ℤ z → x ≤ℤ z
    through a b = omega (arith, ints)
ends_sided Has f values h (inr k) = record { side = inr (λ q w. through (h.high_is.greatest _ (record { x = q; is = w; gives = refl })) k) }
  where
    through : {x y z : ℤ} → x ≤ℤ y → y ≤ℤ z → x ≤ℤ z
    through a b = omega (arith, ints)

pub meets_in : (Has : Point → Type 0) (f : Form) (values : Interval) (r : Relation) (z : ℤ) → IsHullOf (IsFormValue Has f) values → Meets Has f r z → MeetsIn values r z
meets_in Has f values AtMost z h m = m
meets_in Has f values Equal z h m = m
meets_in Has f values NotEqual z h m = λ e. m (ends_sided Has f values h e)

pub meets_of : (Has : Point → Type 0) (f : Form) (values : Interval) (r : Relation) (z : ℤ) → IsHullOf (IsFormValue Has f) values → MeetsIn values r z → Meets Has f r z
meets_of Has f values AtMost z h m = m
meets_of Has f values Equal z h m = m
meets_of Has f values NotEqual z h m = λ s. m (sided_ends Has f values h s)

value_in : (Has : Point → Type 0) (f : Form) (values : Interval) → IsHullOf (IsFormValue Has f) values → (p : Point) → Has p → Holds values (form_value p.values f)
value_in Has f values h p i =
    let w : IsFormValue Has f (form_value p.values f) = record { x = p; is = i; gives = refl } in
    record { above = h.low_is.least _ w; below = h.high_is.greatest _ w }

-- ---- the limits of a form

pub at_most_limit : (values l : Interval) (c low : ℤ) → low ≤ℤ (values.low -ℤ c) → l.low ≡ low → l.high ≡ pos 0 -ℤ c → (z : ℤ) → Holds values (z +ℤ c) → Holds l z ↔ ((z +ℤ c) ≤ℤ pos 0)
at_most_limit values l c low k e f z h = (λ w. omega (arith, ints, w.below, f), λ w. record { above = omega (arith, ints, h.above, e, k); below = omega (arith, ints, f, w) })

pub equal_limit : (values l : Interval) (c : ℤ) → l.low ≡ pos 0 -ℤ c → l.high ≡ pos 0 -ℤ c → (z : ℤ) → Holds values (z +ℤ c) → Holds l z ↔ (z +ℤ c ≡ pos 0)
equal_limit values l c e f z h = (λ w. omega (arith, ints, w.above, w.below, e, f), λ w. record { above = omega (arith, ints, e, w); below = omega (arith, ints, f, w) })

positive : (y : ℤ) → pos 0 ≤ℤ y → y ≢ pos 0 → pos 1 ≤ℤ y
positive y h k = elim (le_or_lt y (pos 0)) [
  | inl l ↦ absurd (k (le_antisym l h))
  | inr g ↦ omega (arith, ints)
]

negative : (y : ℤ) → y ≤ℤ pos 0 → y ≢ pos 0 → y ≤ℤ (pos 0 -ℤ pos 1)
negative y h k = elim (le_or_lt (pos 0) y) [
  | inl l ↦ absurd (k (le_antisym h l))
  | inr g ↦ omega (arith, ints)
]

pub above_limit : (values l : Interval) (c high : ℤ) → values.low ≡ pos 0 → (values.high -ℤ c) ≤ℤ high → l.low ≡ pos 1 -ℤ c → l.high ≡ high → (z : ℤ) → Holds values (z +ℤ c)
    → Holds l z ↔ MeetsIn values NotEqual (z +ℤ c)
above_limit values l c high zero k e f z h = (
  λ w s. λ q. omega (arith, ints, w.above, e, q),
  λ m. let more = positive (z +ℤ c) (subst (λ (y : ℤ). y ≤ℤ (z +ℤ c)) zero h.above) (m (inl (le_of_eq (sym zero)))) in
      record { above = omega (arith, ints, more, e); below = omega (arith, ints, h.below, k, f) },
)

pub below_limit : (values l : Interval) (c low : ℤ) → values.high ≡ pos 0 → low ≤ℤ (values.low -ℤ c) → l.low ≡ low → l.high ≡ (pos 0 -ℤ pos 1) -ℤ c → (z : ℤ) → Holds values (z +ℤ c)
    → Holds l z ↔ MeetsIn values NotEqual (z +ℤ c)
below_limit values l c low zero k e f z h = (
  λ w s. λ q. omega (arith, ints, w.below, f, q),
  λ m. let less = negative (z +ℤ c) (subst (λ (y : ℤ). (z +ℤ c) ≤ℤ y) zero h.below) (m (inr (le_of_eq zero))) in
      record { above = omega (arith, ints, h.above, k, e); below = omega (arith, ints, less, f) },
)

pub no_limit : (values : Interval) → values.low ≢ pos 0 → values.high ≢ pos 0 → (y : ℤ) → Holds values y → MeetsIn values NotEqual y
no_limit values h k y w = λ s. λ q. elim s [
  | inl l ↦ h (le_antisym (subst (λ (x : ℤ). values.low ≤ℤ x) q w.above) l)
  | inr l ↦ k (le_antisym l (subst (λ (x : ℤ). x ≤ℤ values.high) q w.below))
]

-- ---- tests

module _ (s : Spanned) (f : Form) (r : Relation) (values : Interval) (hull : s.empty ≡ false → IsHullOf (IsFormValue (In s) f) values) where
  pub made_all : ((y : ℤ) → Holds values y → MeetsIn values r y) → (p : Point) → In s p → Kept (In s) f r p
  made_all each p i = record { point = i; meets = meets_of (In s) f values r (form_value p.values f) (hull i.some) (each _ (value_in (In s) f values (hull i.some) p i)) }

  pub kept_all : ((y : ℤ) → Holds values y → MeetsIn values r y) → Leaves s s (Kept (In s) f r)
  kept_all each = record {
    full = refl;
    array_full = refl;
    kept = λ p i k. k.point;
    spanned = λ p i. own_spanned (length s.full) (length s.array_full) (Inside s (Kept (In s) f r)) p (record {
      is = record { point = i; meets = meets_of (In s) f values r (form_value p.values f) (hull i.some) (each _ (value_in (In s) f values (hull i.some) p i)) };
      inside = in_full s p i;
    });
  }

  module _ (t : Spanned) (l : Interval) (each : (z : ℤ) → Holds values (z +ℤ f.constant) → Holds l z ↔ MeetsIn values r (z +ℤ f.constant)) where
    pub made_between : (p : Point) → SumIn (In s) f.terms l.low l.high p → Kept (In s) f r p
    made_between p w =
        let hu = hull w.point.some in
        let m = (each (terms_value p.values f.terms) (value_in (In s) f values hu p w.point)).0 (record { above = w.above; below = w.below }) in
        record { point = w.point; meets = meets_of (In s) f values r (form_value p.values f) hu m }

    pub kept_between : t.full ≡ s.full → t.array_full ≡ s.array_full → ((p : Point) → SumIn (In s) f.terms l.low l.high p → In t p)
        → ((p : Point) → In t p → IsSpanned (length s.full) (length s.array_full) (SumIn (In s) f.terms l.low l.high) p) → Leaves s t (Kept (In s) f r)
    kept_between e g kept spanned = record {
      full = e;
      array_full = g;
      kept = λ p i k.
          let hu = hull k.point.some in
          let w = (each (terms_value p.values f.terms) (value_in (In s) f values hu p k.point)).1 (meets_in (In s) f values r (form_value p.values f) hu k.meets) in
          kept p (record { point = k.point; above = w.above; below = w.below });
      spanned = λ p i. spanned_as (length s.full) (length s.array_full) (SumIn (In s) f.terms l.low l.high) (Inside s (Kept (In s) f r)) p (λ q w.
          let hu = hull w.point.some in
          let m = (each (terms_value q.values f.terms) (value_in (In s) f values hu q w.point)).0 (record { above = w.above; below = w.below }) in
          record { is = record { point = w.point; meets = meets_of (In s) f values r (form_value q.values f) hu m }; inside = in_full s q w.point }) (spanned p i);
    }

-- ---- assignments

pub exactly_leaves : (s t : Spanned) (P : Point → Type 0) → t.full ≡ s.full → t.array_full ≡ s.array_full → ((p : Point) → In t p → IsInside s.full s.array_full p) → Exactly t P → Leaves s t P
exactly_leaves s t P e g inside x = record {
  full = e;
  array_full = g;
  kept = λ p i h. x.kept p (moved_in s t p e g i) h;
  spanned = λ p i. own_spanned (length s.full) (length s.array_full) (Inside s P) p (record { is = x.made p i; inside = inside p i });
}

-- the full ranges of t are those of s
pub inside_of : (s t : Spanned) → t.full ≡ s.full → t.array_full ≡ s.array_full → (p : Point) → In t p → IsInside s.full s.array_full p
inside_of s t e g p i = subst (λ (xs : List Interval). IsInside xs s.array_full p) e (subst (λ (xs : List Interval). IsInside t.full xs p) g (in_full t p i))

pub exactly_left : (s t : Spanned) (P : Point → Type 0) → t.full ≡ s.full → t.array_full ≡ s.array_full → Exactly t P → Leaves s t P
exactly_left s t P e g x = exactly_leaves s t P e g (inside_of s t e g) x

leaves_as : (s t : Spanned) (P Q : Point → Type 0) → ((p : Point) → IsInside s.full s.array_full p → P p → Q p) → ((p : Point) → IsInside s.full s.array_full p → Q p → P p) → Leaves s t P → Leaves s t Q
leaves_as s t P Q f g l = record {
  full = l.full;
  array_full = l.array_full;
  kept = λ p i q. l.kept p i (g p i q);
  spanned = λ p i. spanned_as (length s.full) (length s.array_full) (Inside s P) (Inside s Q) p (λ q w. record { is = f q w.inside w.is; inside = w.inside }) (l.spanned p i);
}

pub near_left : (s t : Spanned) (v : ℕ) (w : Term) (d r : Interval) → t.full ≡ s.full → t.array_full ≡ s.array_full → ((p : Point) → NearIn s v w d r p → In t p)
    → ((p : Point) → In t p → IsSpanned (length s.full) (length s.array_full) (NearIn s v w d r) p) → Leaves s t (NearTerm (In s) v w d r)
near_left s t v w d r e g kept spanned = record {
  full = e;
  array_full = g;
  kept = λ p i n. kept p (record { near = n; inside = i });
  spanned = λ p i. spanned_as (length s.full) (length s.array_full) (NearIn s v w d r) (Inside s (NearTerm (In s) v w d r)) p (λ q n. record { is = n.near; inside = n.inside }) (spanned p i);
}

just : (c : Interval) (k z : ℤ) → c.low ≡ k → c.high ≡ k → Holds c z → z ≡ pos 0 +ℤ k
just c k z e f h = omega (arith, ints, h.above, h.below, e, f)

just_of : (c : Interval) (k z : ℤ) → c.low ≡ k → c.high ≡ k → z ≡ pos 0 +ℤ k → Holds c z
just_of c k z e f h = record { above = omega (arith, ints, e, h); below = omega (arith, ints, f, h) }

pub constant_left : (s t : Spanned) (v : ℕ) (f : Form) (c : Interval) → f.terms ≡ [] → c.low ≡ f.constant → c.high ≡ f.constant → Leaves s t (Freed (In s) v c) → Leaves s t (Assigned (In s) v f)
constant_left s t v f c none e g l = leaves_as s t (Freed (In s) v c) (Assigned (In s) v f)
    (λ p i h. record {
      was = h.was;
      point = h.point;
      others = h.others;
      value = subst (λ (ts : List Term). p.values v ≡ terms_value h.was.values ts +ℤ f.constant) (sym none) (just c f.constant (p.values v) e g h.value);
    })
    (λ p i h. record {
      was = h.was;
      point = h.point;
      others = h.others;
      value = just_of c f.constant (p.values v) e g (subst (λ (ts : List Term). p.values v ≡ terms_value h.was.values ts +ℤ f.constant) none h.value);
    }) l

near_value : (c : Interval) (k x z : ℤ) → c.low ≡ k → c.high ≡ k → Holds c (z -ℤ x) → z ≡ (x +ℤ pos 0) +ℤ k
near_value c k x z e f h = omega (arith, ints, h.above, h.below, e, f)

near_of : (c : Interval) (k x z : ℤ) → c.low ≡ k → c.high ≡ k → z ≡ (x +ℤ pos 0) +ℤ k → Holds c (z -ℤ x)
near_of c k x z e f h = record { above = omega (arith, ints, e, h); below = omega (arith, ints, f, h) }

pub term_left : (s t : Spanned) (v : ℕ) (f : Form) (w : Term) (c full : Interval) → v < length s.full → f.terms ≡ w ∷ [] → c.low ≡ f.constant → c.high ≡ f.constant → full ≡ range_at s.full v
    → Leaves s t (NearTerm (In s) v w c full) → Leaves s t (Assigned (In s) v f)
term_left s t v f w c full hv one e g h l = leaves_as s t (NearTerm (In s) v w c full) (Assigned (In s) v f)
    (λ p i n. record {
      was = n.was;
      point = n.point;
      others = n.others;
      value = subst (λ (ts : List Term). p.values v ≡ terms_value n.was.values ts +ℤ f.constant) (sym one) (near_value c f.constant (term_value n.was.values w) (p.values v) e g n.near);
    })
    (λ p i n. record {
      was = n.was;
      point = n.point;
      others = n.others;
      value = subst (λ (x : Interval). Holds x (p.values v)) (sym h) (i.numbers v hv);
      near = near_of c f.constant (term_value n.was.values w) (p.values v) e g (subst (λ (ts : List Term). p.values v ≡ terms_value n.was.values ts +ℤ f.constant) one n.value);
    }) l
