-- A variable near a term.
use Rattle.std.proofs.Common.{◌≡◌, ◌≢◌, ◌⊎◌, inl, inr, ℕ, ◌+◌, ◌-◌, ◌<◌, ◌≤◌, ℤ, pos, ◌≤ℤ◌, ◌+ℤ◌, ◌-ℤ◌, List, [], ◌∷◌, ◌++◌, length, true, sym, ◌∙◌, ap, subst, arith, refl}
use Rattle.std.specs.Prelude.{◌↔◌}
use Rattle.std.proofs.lemmas.Bool.{cases_eq}
use Rattle.std.proofs.lemmas.Int.{ints}
use Rattle.std.proofs.lemmas.List.{length-append, get_or_append_left}
use Rattle.wm_interval.specs.declared.Interval.{Interval}
use Rattle.wm_interval.specs.Holds.{Holds, IsHullOf, InBoth}
use Rattle.wm_domain.specs.declared.form.Term.{Term}
use Rattle.wm_domain.specs.declared.form.Form.{Form}
use Rattle.wm_domain.specs.Points.{Point, range_at, nought, IsInside, SameBut, IsNarrow}
use Rattle.wm_domain.specs.Forms.{term_value, terms_value}
use Rattle.wm_domain.specs.Terms.{IsTermValue, Ranged, NearTerm}
use Rattle.wm_domain.specs.Changes.{Freed, Assigned}
use Rattle.wm_domain.specs.States.{IsTold}
use Rattle.wm_domain.proofs.Nears as nears
use Rattle.wm_domain.proofs.Nears.{NearCuts}
use Rattle.wm_octagon.specs.View.{OctagonView}
use Rattle.wm_octagon.specs.View as view
use Rattle.wm_ties.specs.Exact as exact
use Rattle.wm_ties.specs.Exact.{AreInside}
use Rattle.wm_tied.specs.Pointed.{TiedView, IsTied, In, HasPoint, InFull, shape_of, shifted}
use Rattle.wm_tied.specs.Leaving.{IsAlike, IsExactly, Inside, IsLeft}
use Rattle.wm_tied.proofs.Mixed.{spans_alike}
use Rattle.wm_tied.proofs.Cutting.{in_full, full_group, exactly_none}
use Rattle.wm_tied.proofs.Forming.{placing_past}
use Rattle.wm_tied.proofs.Told.{own_told}
use Rattle.wm_tied.proofs.Bounding.{told_as, placing_told, moved_full, ranged_to, ranged_of}

-- ---- a variable of the group near a term of the group

module _ (t : TiedView) (tied : IsTied t.group t.ties) (o : OctagonView) (v : ℕ) (w : Term) (d r : Interval) (hv : v < length t.group) (lies : (z : ℤ) → Holds r z → Holds (range_at t.group v) z)
    (e : o.variables ≡ t.ties.variables) (points : (x : ℕ → ℤ) → view.Holds o x ↔ exact.Follows t.ties v w d r x) where
  in_group : (y : ℕ → ℤ) → exact.Follows t.ties v w d r y → AreInside t.group y
  in_group y f = record {
    inside = λ u hu. elim (cases_eq u v) [
      | inl here ↦ subst (λ (k : ℕ). Holds (range_at t.group k) (y k)) (sym here) (lies (y v) f.value)
      | inr there ↦ subst (Holds (range_at t.group u)) (sym (f.others u there)) ((tied.inside f.was f.point).inside u hu)
    ];
  }

  pub follow_kept : IsTied t.group o
  follow_kept = record { counted = e ∙ tied.counted; few = tied.few; narrow = tied.narrow; inside = λ y h. in_group y ((points y).0 h) }

  not_past : (k : ℕ) → length t.group + k ≢ v
  not_past k q = absurd (let h : v < length t.group = hv in omega arith)

  pub follow_exactly : IsExactly (record t { ties = o }) (NearTerm (In t) v w d r)
  follow_exactly = record {
    made = λ p i.
        let f = (points p.values).0 i.ties in
        let q : Point = record { values = f.was; cells = p.cells } in
        record {
          was = q;
          point = record { tied = tied; ties = f.point; spans = spans_alike t.spans (shifted (length t.group) p) (shifted (length t.group) q) (λ k hk. sym (f.others (length t.group + k) (not_past k))) (λ a ha. refl) i.spans };
          others = record { numbers = f.others; cells = λ a. refl };
          value = f.value;
          near = f.near;
        };
    kept = λ p f b. record {
      tied = follow_kept;
      ties = (points p.values).1 (record { was = b.was.values; point = b.point.ties; others = b.others.numbers; value = b.value; near = b.near });
      spans = spans_alike t.spans (shifted (length t.group) b.was) (shifted (length t.group) p) (λ k hk. b.others.numbers (length t.group + k) (not_past k)) (λ a ha. b.others.cells a) b.point.spans;
    };
  }

-- ---- a variable near a term, one of them past the group

near_left : (l k dl dk t z : ℤ) → l ≤ℤ z → z ≤ℤ k → dl ≤ℤ (z -ℤ t) → (z -ℤ t) ≤ℤ dk → ((l -ℤ dk) ≤ℤ t) × (t ≤ℤ (k -ℤ dl))
near_left l k dl dk t z h1 h2 h3 h4 = (omega (arith, ints), omega (arith, ints))

near_right : (m n dl dk t z : ℤ) → m ≤ℤ t → t ≤ℤ n → dl ≤ℤ (z -ℤ t) → (z -ℤ t) ≤ℤ dk → ((m +ℤ dl) ≤ℤ z) × (z ≤ℤ (n +ℤ dk))
near_right m n dl dk t z h1 h2 h3 h4 = (omega (arith, ints), omega (arith, ints))

module _ (s s1 : TiedView) (v : ℕ) (t : Term) (d r rt c1 c2 : Interval) (lies : (z : ℤ) → Holds r z → Holds (range_at (s.group ++ s.spans.full) v) z)
    (l1 : c1.low ≡ r.low -ℤ d.high) (h1 : c1.high ≡ r.high -ℤ d.low)
    (al1 : IsAlike s s1) (e1 : IsExactly s1 (Ranged (In s) t c1.low c1.high))
    (t_range : HasPoint s1 → IsHullOf (IsTermValue (In s1) t) rt) (l2 : c2.low ≡ rt.low +ℤ d.low) (h2 : c2.high ≡ rt.high +ℤ d.high) where
  near_first : (p : Point) → Ranged (In s) t (r.low -ℤ d.high) (r.high -ℤ d.low) p → In s1 p
  near_first p w = e1.kept p (moved_full s s1 p al1 (in_full s p w.point)) (ranged_of (In s) t c1 (r.low -ℤ d.high) (r.high -ℤ d.low) p l1 h1 w)

  near_in_first : (p : Point) (n : NearTerm (In s) v t d r p) → In s1 n.was
  near_in_first p n =
      let b = near_left r.low r.high d.low d.high (term_value n.was.values t) (p.values v) n.value.above n.value.below n.near.above n.near.below in
      near_first n.was (record { point = n.point; above = b.0; below = b.1 })

  near_in_sum : (p : Point) → NearTerm (In s) v t d r p → Holds c2 (p.values v)
  near_in_sum p n =
      let i = near_in_first p n in
      let hull = t_range (record { point = n.was; is = i }) in
      let value : IsTermValue (In s1) t (term_value n.was.values t) = record { x = n.was; is = i; gives = refl } in
      let b = near_right rt.low rt.high d.low d.high (term_value n.was.values t) (p.values v) (hull.low_is.least _ value) (hull.high_is.greatest _ value) n.near.above n.near.below in
      record { above = subst (λ (y : ℤ). y ≤ℤ p.values v) (sym l2) b.0; below = subst (λ (y : ℤ). p.values v ≤ℤ y) (sym h2) b.1 }

  near_full : (p : Point) → NearTerm (In s) v t d r p → InFull s p
  near_full p n =
      let w = in_full s n.was n.point in
      record {
        numbers = λ u hu. elim (cases_eq u v) [
          | inl e ↦ subst (λ (k : ℕ). Holds (range_at (s.group ++ s.spans.full) k) (p.values k)) (sym e) (lies (p.values v) n.value)
          | inr ne ↦ subst (Holds (range_at (s.group ++ s.spans.full) u)) (sym (n.others.numbers u ne)) (w.numbers u hu)
        ];
        set_cells = λ a z ha e. w.set_cells a z ha (sym (n.others.cells a) ∙ e);
      }

  pub near_none : (s2 : TiedView) → ((z : ℤ) → InBoth c2 r z → ⊥) → ((p : Point) → In s2 p → ⊥) → IsLeft s2 (NearTerm (In s) v t d r)
  near_none s2 none bare = record { kept = λ p f n. absurd (none (p.values v) (near_in_sum p n, n.value)); told = λ p i. absurd (bare p i) }

  module _ (s2 : TiedView) (now : Interval) (each : (z : ℤ) → Holds now z ↔ InBoth c2 r z) (al2 : IsAlike s1 s2) (e2 : IsExactly s2 (Freed (In s1) v now))
      (inside : v < length s.group + length s.spans.full) (from : t.variable < length s.group + length s.spans.full) where
    near_cuts : HasPoint s1 → NearCuts (In s) (In s1) t d r rt now
    near_cuts h = record {
      first = λ p i. ranged_to (In s) t c1 (r.low -ℤ d.high) (r.high -ℤ d.low) p l1 h1 (e1.made p i);
      first_back = near_first;
      w_range = t_range h;
      now_is = λ z k. let b = (each z).0 k in (b.1, record { above = subst (λ (y : ℤ). y ≤ℤ z) l2 b.0.above; below = subst (λ (y : ℤ). z ≤ℤ y) h2 b.0.below });
      now_back = λ z k w. (each z).1 (record { above = subst (λ (y : ℤ). y ≤ℤ z) (sym l2) w.above; below = subst (λ (y : ℤ). z ≤ℤ y) (sym h2) w.below }, k);
    }

    alike_all : IsAlike s s2
    alike_all = record { group = al2.group ∙ al1.group; full = al2.full ∙ al1.full; array_full = al2.array_full ∙ al1.array_full }

    near_own : (q : Point) → NearTerm (In s) v t d r q → IsTold true (shape_of s2) (Inside s2 (NearTerm (In s) v t d r)) q
    near_own q n = own_told s2 (NearTerm (In s) v t d r) q n (moved_full s s2 q alike_all (near_full q n))

    group_le : (k : ℕ) → length s.group ≤ k → length s2.group ≤ k
    group_le k h = subst (λ (xs : List Interval). length xs ≤ k) (sym (al2.group ∙ al1.group)) h

    apart_of : (v < length s.group) × (length s.group ≤ t.variable) → t.variable ≢ v
    apart_of h q = absurd (let a = h.0 in let b = h.1 in omega arith)

    near_told : (length s.group ≤ v) ⊎ ((v < length s.group) × (length s.group ≤ t.variable)) → (p : Point) → In s2 p → IsTold true (shape_of s2) (Inside s2 (NearTerm (In s) v t d r)) p
    near_told (inl h) p i =
        let f = e2.made p i in
        nears.near_least (In s) (In s1) v t d r rt now (near_cuts (record { point = f.was; is = f.point }))
        (IsTold true (shape_of s2) (Inside s2 (NearTerm (In s) v t d r))) (placing_told (shape_of s2) (Inside s2 (NearTerm (In s) v t d r)) v (group_le v h)) near_own p f
    near_told (inr h) p i =
        let f = e2.made p i in
        nears.near_least_term (In s) (In s1) v t d r rt now (near_cuts (record { point = f.was; is = f.point })) (apart_of h)
        (placing_past s1 t.variable (subst (λ (xs : List Interval). length xs ≤ t.variable) (sym al1.group) h.1)
        (subst (λ (xs : List Interval). t.variable < length s1.group + length xs) (sym al1.full) (subst (λ (xs : List Interval). t.variable < length xs + length s.spans.full) (sym al1.group) from)))
        (IsTold true (shape_of s2) (Inside s2 (NearTerm (In s) v t d r))) (placing_told (shape_of s2) (Inside s2 (NearTerm (In s) v t d r)) t.variable (group_le t.variable h.1)) near_own p f

    pub near_some : (length s.group ≤ v) ⊎ ((v < length s.group) × (length s.group ≤ t.variable)) → IsLeft s2 (NearTerm (In s) v t d r)
    near_some past = record {
      kept = λ p f n. e2.kept p f (nears.near_kept (In s) (In s1) v t d r rt now (near_cuts (record { point = n.was; is = near_in_first p n })) p n);
      told = near_told past;
    }

-- ---- with the full range, and forms

pub left_within : (u : TiedView) (P Q : Point → Type 0) → ((q : Point) → InFull u q → P q → Q q) → ((q : Point) → InFull u q → Q q → P q) → IsLeft u P → IsLeft u Q
left_within u P Q f g l = record { kept = λ p i q. l.kept p i (g p i q); told = λ p i. told_as (shape_of u) (Inside u P) (Inside u Q) p (λ q w. record { is = f q w.inside w.is; inside = w.inside }) (l.told p i) }

in_both : (n m k v : ℕ) → k ≡ n + m → v < n + m → v < k
in_both n m k v e h = omega arith

-- the number of v lies in its full range
pub full_at : (s u : TiedView) (p : Point) (v : ℕ) → IsAlike s u → v < length s.group + length s.spans.full → InFull u p → Holds (range_at (s.group ++ s.spans.full) v) (p.values v)
full_at s u p v a hv f =
    let g = subst (λ (xs : List Interval). IsInside (xs ++ s.spans.full) s.spans.array_full p) a.group (subst (λ (xs : List Interval). IsInside (u.group ++ xs) s.spans.array_full p) a.full (subst (λ (xs : List Interval). IsInside (u.group ++ u.spans.full) xs p) a.array_full f)) in
    g.numbers v (in_both (length s.group) (length s.spans.full) (length (s.group ++ s.spans.full)) v (length-append s.group s.spans.full) hv)

module _ (s u : TiedView) (v : ℕ) (w : Term) (d r x : Interval) (a : IsAlike s u) (hv : v < length s.group + length s.spans.full) (found : x ≡ range_at (s.group ++ s.spans.full) v) where
  in_x : (p : Point) → InFull u p → Holds x (p.values v)
  in_x p f = subst (λ (y : Interval). Holds y (p.values v)) (sym found) (full_at s u p v a hv f)

  pub lost_left : ((z : ℤ) → InBoth x r z → ⊥) → ((p : Point) → In u p → ⊥) → IsLeft u (NearTerm (In s) v w d r)
  lost_left none bare = record { kept = λ p f n. absurd (none (p.values v) (in_x p f, n.value)); told = λ p i. absurd (bare p i) }

  pub fit_left : (fit : Interval) → ((z : ℤ) → Holds fit z ↔ InBoth x r z) → IsLeft u (NearTerm (In s) v w d fit) → IsLeft u (NearTerm (In s) v w d r)
  fit_left fit each l = left_within u (NearTerm (In s) v w d fit) (NearTerm (In s) v w d r)
      (λ q f n. record { was = n.was; point = n.point; others = n.others; value = ((each (q.values v)).0 n.value).1; near = n.near })
      (λ q f n. record { was = n.was; point = n.point; others = n.others; value = (each (q.values v)).1 (in_x q f, n.value); near = n.near }) l

pub fit_narrow : (x r fit : Interval) → IsNarrow x → ((z : ℤ) → Holds fit z ↔ InBoth x r z) → IsNarrow fit
fit_narrow x r fit n each =
    let low = ((each fit.low).0 (record { above = omega (arith, ints); below = fit.ordered })).0 in
    let high = ((each fit.high).0 (record { above = fit.ordered; below = omega (arith, ints) })).0 in
    record {
      low_fits = record { above = omega (arith, ints, low.above, n.low_fits.above); below = omega (arith, ints, low.below, n.high_fits.below) };
      high_fits = record { above = omega (arith, ints, high.above, n.low_fits.above); below = omega (arith, ints, high.below, n.high_fits.below) };
    }

pub fit_lies : (x y r fit : Interval) → x ≡ y → ((z : ℤ) → Holds fit z ↔ InBoth x r z) → (z : ℤ) → Holds fit z → Holds y z
fit_lies x y r fit e each z h = subst (λ (i : Interval). Holds i z) e ((each z).0 h).0

pub lies_group : (s : TiedView) (v : ℕ) (r : Interval) → v < length s.group → ((z : ℤ) → Holds r z → Holds (range_at (s.group ++ s.spans.full) v) z) → (z : ℤ) → Holds r z → Holds (range_at s.group v) z
lies_group s v r h l z i = subst (λ (x : Interval). Holds x z) (get_or_append_left s.group s.spans.full nought v h) (l z i)

just : (c : Interval) (k z : ℤ) → c.low ≡ k → c.high ≡ k → Holds c z → z ≡ pos 0 +ℤ k
just c k z e f h = omega (arith, ints, h.above, h.below, e, f)

just_of : (c : Interval) (k z : ℤ) → c.low ≡ k → c.high ≡ k → z ≡ pos 0 +ℤ k → Holds c z
just_of c k z e f h = record { above = omega (arith, ints, e, h); below = omega (arith, ints, f, h) }

pub constant_left : (s u : TiedView) (v : ℕ) (f : Form) (c : Interval) → f.terms ≡ [] → c.low ≡ f.constant → c.high ≡ f.constant → IsLeft u (Freed (In s) v c) → IsLeft u (Assigned (In s) v f)
constant_left s u v f c none e g l = left_within u (Freed (In s) v c) (Assigned (In s) v f)
    (λ p i h. record { was = h.was; point = h.point; others = h.others; value = subst (λ (ts : List Term). p.values v ≡ terms_value h.was.values ts +ℤ f.constant) (sym none) (just c f.constant (p.values v) e g h.value) })
    (λ p i h. record { was = h.was; point = h.point; others = h.others; value = just_of c f.constant (p.values v) e g (subst (λ (ts : List Term). p.values v ≡ terms_value h.was.values ts +ℤ f.constant) none h.value) }) l

near_value : (c : Interval) (k x z : ℤ) → c.low ≡ k → c.high ≡ k → Holds c (z -ℤ x) → z ≡ (x +ℤ pos 0) +ℤ k
near_value c k x z e f h = omega (arith, ints, h.above, h.below, e, f)

near_of : (c : Interval) (k x z : ℤ) → c.low ≡ k → c.high ≡ k → z ≡ (x +ℤ pos 0) +ℤ k → Holds c (z -ℤ x)
near_of c k x z e f h = record { above = omega (arith, ints, e, h); below = omega (arith, ints, f, h) }

pub term_left : (s u : TiedView) (v : ℕ) (f : Form) (w : Term) (c full : Interval) → IsAlike s u → v < length s.group + length s.spans.full → f.terms ≡ w ∷ [] → c.low ≡ f.constant → c.high ≡ f.constant → full ≡ range_at (s.group ++ s.spans.full) v
    → IsLeft u (NearTerm (In s) v w c full) → IsLeft u (Assigned (In s) v f)
term_left s u v f w c full a hv one e g h l = left_within u (NearTerm (In s) v w c full) (Assigned (In s) v f)
    (λ p i n. record { was = n.was; point = n.point; others = n.others; value = subst (λ (ts : List Term). p.values v ≡ terms_value n.was.values ts +ℤ f.constant) (sym one) (near_value c f.constant (term_value n.was.values w) (p.values v) e g n.near) })
    (λ p i n. record {
      was = n.was;
      point = n.point;
      others = n.others;
      value = subst (λ (x : Interval). Holds x (p.values v)) (sym h) (full_at s u p v a hv i);
      near = near_of c f.constant (term_value n.was.values w) (p.values v) e g (subst (λ (ts : List Term). p.values v ≡ terms_value n.was.values ts +ℤ f.constant) one n.value);
    }) l
