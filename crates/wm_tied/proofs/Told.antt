-- What writes and joins leave: the points are kept, and each that is left is told by them.
use Rattle.std.proofs.Common.{◌≡◌, ◌≢◌, ◌⊎◌, inl, inr, ℕ, ◌+◌, ◌-◌, ◌*◌, ◌<◌, ◌≤◌, ℤ, pos, ◌≤ℤ◌, ◌+ℤ◌, ◌-ℤ◌, neg_ℤ, List, ◌++◌, length, Option, Some, None, Bool, true, false, cond, sym, ◌∙◌, ap, subst, arith, refl}
use Rattle.std.specs.Prelude.{◌↔◌, IsTrue}
use Rattle.std.proofs.lemmas.Bool.{cases_eq, cases_lt}
use Rattle.std.proofs.lemmas.Int.{ints}
use Rattle.std.proofs.lemmas.List.{length-append}
use Rattle.wm_numbers.proofs.Order.{le_refl, le_trans, le_of_eq}
use Rattle.wm_interval.specs.declared.Interval.{Interval}
use Rattle.wm_interval.specs.Holds.{Holds}
use Rattle.wm_domain.specs.declared.form.Term.{Term}
use Rattle.wm_domain.specs.Points.{Point, range_at, IsInside, SameBut, SameButCell, AllowsCell}
use Rattle.wm_domain.specs.Forms.{signed, term_value}
use Rattle.wm_domain.specs.Changes.{Written, InEither}
use Rattle.wm_domain.specs.States.{IsReached, IsCellTold, IsTold}
use Rattle.wm_octagon.specs.declared.octagon.Side.{Side}
use Rattle.wm_octagon.specs.Layout.{opposite}
use Rattle.wm_octagon.specs.Points.{side_value}
use Rattle.wm_octagon.specs.View.{OctagonView, IsLeast}
use Rattle.wm_octagon.specs.View as view
use Rattle.wm_octagon.specs.Joining as joining
use Rattle.wm_octagon.specs.Sides as sides
use Rattle.wm_octagon.proofs.Tables.{opposite-lt}
use Rattle.wm_octagon.proofs.Attained.{side_value-opposite}
use Rattle.wm_octagon.proofs.Octagons.{signed-side, number-lt}
use Rattle.wm_ties.specs.Exact.{AreInside}
use Rattle.wm_ties.proofs.Reach.{reach, reach_range, holds_of}
use Rattle.wm_spans.specs.Spanned.{Spanned}
use Rattle.wm_spans.specs.Spanned as spanned
use Rattle.wm_spans.specs.Exact.{IsNearCell, IsBetweenCell, IsSpanned}
use Rattle.wm_tied.specs.Pointed.{TiedView, IsTied, In, HasPoint, InFull, shape_of, shifted}
use Rattle.wm_tied.specs.Leaving.{IsAlike, IsExactly, Inside, IsLeft}
use Rattle.wm_tied.proofs.Mixed.{mix, mix-group, mix-past, mix-single, mixed, mixed_in, ties_alike, spans_alike}
use Rattle.wm_tied.proofs.Cutting.{in_full, full_spans, full_group, number_of, past_number, past_lt}

-- ---- a point is told by itself

same_cell : (P : Point → Type 0) (b : ℕ) (q : Point) → P q → (c : Option ℤ) → q.cells b ≡ c → IsCellTold P b c
same_cell P b q h None e = tt
same_cell P b q h (Some z) e = record { x = q; y = q; x_is = h; y_is = h; low = z; high = z; x_cell = e; y_cell = e; above = le_refl z; below = le_refl z }

-- and by a point with the same numbers
told_by : (t : TiedView) (P : Point → Type 0) (p q : Point) → P q → ((v : ℕ) → q.values v ≡ p.values v) → ((a : ℕ) → a < length t.spans.array_full → IsCellTold P a (p.cells a)) → IsTold true (shape_of t) P p
told_by t P p q h same cells = record {
  some = q;
  some_is = h;
  each = λ w hw. record { x = q; is = h; reaches = le_of_eq (ap (signed w.negative) (sym (same w.variable))) };
  pair = λ on w u hw hu ne. record { x = q; is = h; reaches = le_both _ _ _ _ (le_of_eq (ap (signed w.negative) (sym (same w.variable)))) (le_of_eq (ap (signed u.negative) (sym (same u.variable)))) };
  cells = cells;
}
  where
    le_both : (a b c d : ℤ) → a ≤ℤ c → b ≤ℤ d → (a +ℤ b) ≤ℤ (c +ℤ d)
    le_both a b c d x y = omega (arith, ints)

pub own_told : (t : TiedView) (P : Point → Type 0) (p : Point) → P p → InFull t p → IsTold true (shape_of t) (Inside t P) p
own_told t P p h f = told_by t (Inside t P) p p (record { is = h; inside = f }) (λ v. refl) (λ a ha. same_cell (Inside t P) a p (record { is = h; inside = f }) (p.cells a) refl)

-- ---- writes

module _ (t : TiedView) (tied : IsTied t.group t.ties) (s : Spanned) (a : ℕ) (r : Interval) (n : ℕ) (same_full : s.full ≡ t.spans.full) (same_arrays : s.array_full ≡ t.spans.array_full) where
  abbrev IsWritten : Point → Type 0
  IsWritten = Written (In t) (range_at t.spans.array_full a) a r n

  -- a written point of the spans beside the group of p
  lifted : (p q : Point) → In (record t { spans = s }) p → Written (spanned.In t.spans) (range_at t.spans.array_full a) a r n q → IsWritten (mixed (length t.group) p.values q)
  lifted p q i w = record {
    was = mixed (length t.group) p.values w.was;
    point = mixed_in t p.values w.was tied i.ties w.point;
    others = record {
      numbers = λ v. elim (cases_lt v (length t.group)) [
        | inl h ↦ mix-group (length t.group) p.values q.values v h ∙ sym (mix-group (length t.group) p.values w.was.values v h)
        | inr h ↦ mix-past (length t.group) p.values q.values v h ∙ w.others.numbers (v - length t.group) ∙ sym (mix-past (length t.group) p.values w.was.values v h)
      ];
      cells = w.others.cells;
    };
    number = w.number;
    in_range = w.in_range;
    fits = w.fits;
    cell = w.cell;
  }

  some_is : (x z : ℤ) → Some x ≡ Some z → x ≡ z
  some_is x z e = cc

  written_full : (q : Point) → IsWritten q → InFull (record t { spans = s }) q
  written_full q w =
      let i = in_full t w.was w.point in
      subst (λ (xs : List Interval). IsInside (t.group ++ xs) s.array_full q) (sym same_full) (subst (λ (xs : List Interval). IsInside (t.group ++ t.spans.full) xs q) (sym same_arrays) (record {
        numbers = λ v hv. subst (Holds (range_at (t.group ++ t.spans.full) v)) (sym (w.others.numbers v)) (i.numbers v hv);
        set_cells = λ b z hb e. elim (cases_eq b a) [
          | inl h ↦ elim w.cell [
            | inl y ↦ subst (λ (k : ℕ). Holds (range_at t.spans.array_full k) z) (sym h) (subst (Holds (range_at t.spans.array_full a)) (some_is w.number z (sym y ∙ subst (λ (k : ℕ). q.cells k ≡ Some z) h e)) w.fits)
            | inr y ↦ i.set_cells b z hb (subst (λ (k : ℕ). w.was.cells k ≡ Some z) (sym h) (sym y.1 ∙ subst (λ (k : ℕ). q.cells k ≡ Some z) h e))
          ]
          | inr ne ↦ i.set_cells b z hb (sym (w.others.cells b ne) ∙ e)
        ];
      }))

  abbrev Left : Point → Type 0
  Left = Inside (record t { spans = s }) (Written (In t) (range_at t.spans.array_full a) a r n)

  left_of : (p q : Point) → In (record t { spans = s }) p → Written (spanned.In t.spans) (range_at t.spans.array_full a) a r n q → Left (mixed (length t.group) p.values q)
  left_of p q i w = record { is = lifted p q i w; inside = written_full (mixed (length t.group) p.values q) (lifted p q i w) }

  near_told : (p : Point) → In (record t { spans = s }) p → (c : Option ℤ) → IsBetweenCell (Written (spanned.In t.spans) (range_at t.spans.array_full a) a r n) a (shifted (length t.group) p) c → IsCellTold Left a c
  near_told p i None h = tt
  near_told p i (Some z) h = record {
    x = mixed (length t.group) p.values h.x;
    y = mixed (length t.group) p.values h.y;
    x_is = left_of p h.x i h.x_is;
    y_is = left_of p h.y i h.y_is;
    low = h.low;
    high = h.high;
    x_cell = h.x_cell;
    y_cell = h.y_cell;
    above = h.above;
    below = h.below;
  }

  pub write_left : ((q : Point) → IsInside t.spans.full t.spans.array_full q → Written (spanned.In t.spans) (range_at t.spans.array_full a) a r n q → spanned.In s q)
      → ((q : Point) → spanned.In s q → IsNearCell (Written (spanned.In t.spans) (range_at t.spans.array_full a) a r n) a q) → IsLeft (record t { spans = s }) (Written (In t) (range_at t.spans.array_full a) a r n)
  write_left kept near = record {
    kept = λ p f w. record {
      tied = tied;
      ties = ties_alike t.ties w.was.values p.values (λ v hv. w.others.numbers v) w.point.ties;
      spans = kept (shifted (length t.group) p)
          (subst (λ (xs : List Interval). IsInside xs t.spans.array_full (shifted (length t.group) p)) same_full (subst (λ (xs : List Interval). IsInside s.full xs (shifted (length t.group) p)) same_arrays (full_spans (record t { spans = s }) p f)))
          (record {
            was = shifted (length t.group) w.was;
            point = w.point.spans;
            others = record { numbers = λ v. w.others.numbers (length t.group + v); cells = w.others.cells };
            number = w.number;
            in_range = w.in_range;
            fits = w.fits;
            cell = w.cell;
          });
    };
    told = λ p i.
        let h = near (shifted (length t.group) p) i.spans in
        let l = left_of p h.some i h.some_is in
        told_by (record t { spans = s }) Left p (mixed (length t.group) p.values h.some) l
        (λ v. sym (number_of t tied s p h.some v (λ past. sym (h.same.numbers (v - length t.group)))))
        (λ b hb. elim (cases_eq b a) [
          | inl e ↦ subst (λ (k : ℕ). IsCellTold Left k (p.cells k)) (sym e) (near_told p i (p.cells a) h.cell)
          | inr ne ↦ same_cell Left b (mixed (length t.group) p.values h.some) l (p.cells b) (h.same.cells b ne)
        ]);
  }

-- ---- joins

either_full : (t u : TiedView) (q : Point) → u.group ≡ t.group → u.spans.full ≡ t.spans.full → u.spans.array_full ≡ t.spans.array_full → InEither (In t) (In u) q → InFull t q
either_full t u q e f g (inl i) = in_full t q i
either_full t u q e f g (inr i) =
    subst (λ (xs : List Interval). IsInside (xs ++ t.spans.full) t.spans.array_full q) e
    (subst (λ (xs : List Interval). IsInside (u.group ++ xs) t.spans.array_full q) f (subst (λ (xs : List Interval). IsInside (u.group ++ u.spans.full) xs q) g (in_full u q i)))

-- the term's side of the octagon
abbrev side_of : Term → Side
side_of w = record { variable = w.variable; negative = w.negative }

side_gives : (x : ℕ → ℤ) (w : Term) → sides.signed x (side_of w) ≡ term_value x w
side_gives x w = by_sign w.negative (x w.variable)
  where
    by_sign : (b : Bool) (z : ℤ) → cond b (neg_ℤ z) z ≡ signed b z
    by_sign true z = refl
    by_sign false z = refl

pub record Farther (P : (ℕ → ℤ) → Type 0) (x : ℕ → ℤ) (w u : Term) : Type 0 where
  pub y : ℕ → ℤ
  pub is : P y
  pub far : (term_value x w +ℤ term_value x u) ≤ℤ (term_value y w +ℤ term_value y u)

-- what is reached at a point of a least octagon by one of two terms, or by both
pub reached_both : (o : OctagonView) (P : (ℕ → ℤ) → Type 0) → IsLeast o P → (x : ℕ → ℤ) → view.Holds o x → (w u : Term) → w.variable < o.variables → u.variable < o.variables → Farther P x w u
reached_both o P t x h w u hw hu =
    let k = opposite-lt o.variables (sides.number_of (side_of w)) (number-lt o.variables (side_of w) hw) in
    let r = reach o P t x h (opposite (sides.number_of (side_of w))) (sides.number_of (side_of u)) k (number-lt o.variables (side_of u) hu) in
    let far = r.far in
    let a1 = side_value-opposite x (sides.number_of (side_of w)) in
    let a2 = side_value-opposite r.y (sides.number_of (side_of w)) in
    let b1 = signed-side x (side_of w) ∙ side_gives x w in
    let b2 = signed-side x (side_of u) ∙ side_gives x u in
    let c1 = signed-side r.y (side_of w) ∙ side_gives r.y w in
    let c2 = signed-side r.y (side_of u) ∙ side_gives r.y u in
    record { y = r.y; is = r.is; far = omega (arith, ints) }

half_le : (a b : ℤ) → (a +ℤ a) ≤ℤ (b +ℤ b) → a ≤ℤ b
half_le a b h = omega (arith, ints)

-- ---- two states with points, joined part by part

module _ (t u n : TiedView) (same : u.group ≡ t.group) (h : HasPoint t) (k : HasPoint u) (ng : n.group ≡ t.group) where
  -- a point of one of the ties, or of one of the spans, is part of a point of the same state
  abbrev from_ties : (x : ℕ → ℤ) → joining.InEither t.ties u.ties x → Point
  from_ties x (inl i) = mixed (length t.group) x (shifted (length t.group) h.point)
  from_ties x (inr i) = mixed (length u.group) x (shifted (length u.group) k.point)

  from_ties_in : (x : ℕ → ℤ) (e : joining.InEither t.ties u.ties x) → InEither (In t) (In u) (from_ties x e)
  from_ties_in x (inl i) = inl (mixed_in t x (shifted (length t.group) h.point) h.is.tied i h.is.spans)
  from_ties_in x (inr i) = inr (mixed_in u x (shifted (length u.group) k.point) k.is.tied i k.is.spans)

  from_ties_at : (x : ℕ → ℤ) (e : joining.InEither t.ties u.ties x) (w : Term) → w.variable < length t.group → term_value (from_ties x e).values w ≡ term_value x w
  from_ties_at x (inl i) w hw = ap (signed w.negative) (mix-group (length t.group) x (shifted (length t.group) h.point).values w.variable hw)
  from_ties_at x (inr i) w hw = ap (signed w.negative) (mix-group (length u.group) x (shifted (length u.group) k.point).values w.variable (subst (λ (xs : List Interval). w.variable < length xs) (sym same) hw))

  abbrev from_spans : (q : Point) → InEither (spanned.In t.spans) (spanned.In u.spans) q → Point
  from_spans q (inl i) = mixed (length t.group) h.point.values q
  from_spans q (inr i) = mixed (length u.group) k.point.values q

  from_spans_in : (q : Point) (e : InEither (spanned.In t.spans) (spanned.In u.spans) q) → InEither (In t) (In u) (from_spans q e)
  from_spans_in q (inl i) = inl (mixed_in t h.point.values q h.is.tied h.is.ties i)
  from_spans_in q (inr i) = inr (mixed_in u k.point.values q k.is.tied k.is.ties i)

  from_spans_at : (q : Point) (e : InEither (spanned.In t.spans) (spanned.In u.spans) q) (v : ℕ) → length t.group ≤ v → (from_spans q e).values v ≡ q.values (v - length t.group)
  from_spans_at q (inl i) v hv = mix-past (length t.group) h.point.values q.values v hv
  from_spans_at q (inr i) v hv = mix-past (length u.group) k.point.values q.values v (subst (λ (xs : List Interval). length xs ≤ v) (sym same) hv) ∙ ap (λ (xs : List Interval). q.values (v - length xs)) same

  from_spans_cells : (q : Point) (e : InEither (spanned.In t.spans) (spanned.In u.spans) q) (a : ℕ) → (from_spans q e).cells a ≡ q.cells a
  from_spans_cells q (inl i) a = refl
  from_spans_cells q (inr i) a = refl

  cell_from : (Q : Point → Type 0) → ((q : Point) → InEither (In t) (In u) q → Q q) → (a : ℕ) (c : Option ℤ) → IsCellTold (InEither (spanned.In t.spans) (spanned.In u.spans)) a c → IsCellTold Q a c
  cell_from Q all a None f = tt
  cell_from Q all a (Some z) f = record {
    x = from_spans f.x f.x_is;
    y = from_spans f.y f.y_is;
    x_is = all _ (from_spans_in f.x f.x_is);
    y_is = all _ (from_spans_in f.y f.y_is);
    low = f.low;
    high = f.high;
    x_cell = from_spans_cells f.x f.x_is a ∙ f.x_cell;
    y_cell = from_spans_cells f.y f.y_is a ∙ f.y_cell;
    above = f.above;
    below = f.below;
  }

  module _ (full : u.spans.full ≡ t.spans.full) (arrays : u.spans.array_full ≡ t.spans.array_full) (nf : n.spans.full ≡ t.spans.full) (na : n.spans.array_full ≡ t.spans.array_full) (tied : IsTied n.group n.ties)
      (least : IsLeast n.ties (joining.InEither t.ties u.ties))
      (kept : (p : Point) → InEither (spanned.In t.spans) (spanned.In u.spans) p → spanned.In n.spans p)
      (spans : (p : Point) → spanned.In n.spans p → IsSpanned (length t.spans.full) (length t.spans.array_full) (InEither (spanned.In t.spans) (spanned.In u.spans)) p) where
    inside_of : (q : Point) → InEither (In t) (In u) q → Inside n (InEither (In t) (In u)) q
    inside_of q e = record {
      is = e;
      inside =
          subst (λ (xs : List Interval). IsInside (xs ++ n.spans.full) n.spans.array_full q) (sym ng)
          (subst (λ (xs : List Interval). IsInside (t.group ++ xs) n.spans.array_full q) (sym nf) (subst (λ (xs : List Interval). IsInside (t.group ++ t.spans.full) xs q) (sym na) (either_full t u q same full arrays e)));
    }

    raise_kept : (p : Point) → InEither (In t) (In u) p → In n p
    raise_kept p (inl i) = record {
      tied = tied;
      ties = holds_of n.ties (joining.InEither t.ties u.ties) least p.values (inl i.ties);
      spans = kept (shifted (length n.group) p) (inl (subst (λ (xs : List Interval). spanned.In t.spans (shifted (length xs) p)) (sym ng) i.spans));
    }
    raise_kept p (inr i) = record {
      tied = tied;
      ties = holds_of n.ties (joining.InEither t.ties u.ties) least p.values (inr i.ties);
      spans = kept (shifted (length n.group) p) (inr (subst (λ (xs : List Interval). spanned.In u.spans (shifted (length xs) p)) (same ∙ sym ng) i.spans));
    }

    in_ties : (v : ℕ) → v < length t.group → v < n.ties.variables
    in_ties v hv = subst (λ (m : ℕ). v < m) (sym tied.counted) (subst (λ (xs : List Interval). v < length xs) (sym ng) hv)

    pub raise_told : (p : Point) → In n p → IsTold true (shape_of n) (Inside n (InEither (In t) (In u))) p
    raise_told p i =
        let s = spans (shifted (length t.group) p) (subst (λ (xs : List Interval). spanned.In n.spans (shifted (length xs) p)) ng i.spans) in
        record {
          some = from_spans s.some s.some_is;
          some_is = inside_of _ (from_spans_in s.some s.some_is);
          each = λ w hw. elim (cases_lt w.variable (length t.group)) [
            | inl hg ↦ (
                let f = reached_both n.ties (joining.InEither t.ties u.ties) least p.values i.ties w w (in_ties w.variable hg) (in_ties w.variable hg) in
                record { x = from_ties f.y f.is; is = inside_of _ (from_ties_in f.y f.is); reaches = subst (λ (z : ℤ). term_value p.values w ≤ℤ z) (sym (from_ties_at f.y f.is w hg)) (half_le _ _ f.far) })
            | inr hp ↦ (
                let back = past_number (length t.group) w.variable hp in
                let r = s.each (record { variable = w.variable - length t.group; negative = w.negative }) (past_lt (length t.group) (length t.spans.full) w.variable (length (n.group ++ n.spans.full)) (ap (λ (xs : List Interval). length (xs ++ n.spans.full)) ng ∙ ap (λ (xs : List Interval). length (t.group ++ xs)) nf ∙ length-append t.group t.spans.full) hw hp) in
                record {
                  x = from_spans r.x r.is;
                  is = inside_of _ (from_spans_in r.x r.is);
                  reaches = subst (λ (z : ℤ). signed w.negative (p.values w.variable) ≤ℤ signed w.negative z) (sym (from_spans_at r.x r.is w.variable hp)) (subst (λ (v : ℕ). signed w.negative (p.values v) ≤ℤ signed w.negative (r.x.values (w.variable - length t.group))) back r.reaches);
                })
          ];
          pair = λ on w v hw hv ne.
              let gw = subst (λ (xs : List Interval). w.variable < length xs) ng hw in
              let gv = subst (λ (xs : List Interval). v.variable < length xs) ng hv in
              let f = reached_both n.ties (joining.InEither t.ties u.ties) least p.values i.ties w v (in_ties w.variable gw) (in_ties v.variable gv) in
              record {
                x = from_ties f.y f.is;
                is = inside_of _ (from_ties_in f.y f.is);
                reaches = subst (λ (z : ℤ). (term_value p.values w +ℤ term_value p.values v) ≤ℤ z) (sum_same (from_ties_at f.y f.is w gw) (from_ties_at f.y f.is v gv)) f.far;
              };
          cells = λ a ha. cell_from (Inside n (InEither (In t) (In u))) inside_of a (p.cells a) (s.cells a (subst (λ (xs : List Interval). a < length xs) na ha));
        }
      where
        sum_same : {a b c d : ℤ} → a ≡ c → b ≡ d → c +ℤ d ≡ a +ℤ b
        sum_same e f = omega (arith, ints)

    pub raise_left : IsLeft n (InEither (In t) (In u))
    raise_left = record { kept = λ p f e. raise_kept p e; told = raise_told }

-- one of the two has no point
pub left_here : (t u : TiedView) → ((p : Point) → In u p → ⊥) → IsLeft t (InEither (In t) (In u))
left_here t u none = record { kept = λ p f e. elim e [ inl i ↦ i | inr i ↦ absurd (none p i) ]; told = λ p i. own_told t (InEither (In t) (In u)) p (inl i) (in_full t p i) }

pub left_there : (t u n : TiedView) → ((p : Point) → In t p → ⊥) → ((p : Point) → In n p ↔ In u p) → IsLeft n (InEither (In t) (In u))
left_there t u n none each = record { kept = λ p f e. elim e [ inl i ↦ absurd (none p i) | inr i ↦ (each p).1 i ]; told = λ p i. own_told n (InEither (In t) (In u)) p (inr ((each p).0 i)) (in_full n p i) }

-- ---- what is kept beside the ties, after a join

pub raise_tied : (t u : TiedView) (o : OctagonView) → u.group ≡ t.group → IsTied t.group t.ties → IsTied u.group u.ties → o.variables ≡ t.ties.variables → IsLeast o (joining.InEither t.ties u.ties) → IsTied t.group o
raise_tied t u o same here there e least = record {
  counted = e ∙ here.counted;
  few = here.few;
  narrow = here.narrow;
  inside = λ x h. record {
    inside = λ v hv. reach_range o (joining.InEither t.ties u.ties) v (range_at t.group v).low (range_at t.group v).high (subst (λ (m : ℕ). v < m) (sym (e ∙ here.counted)) hv) least (λ y i. elim i [
      | inl j ↦ (here.inside y j).inside v hv
      | inr j ↦ subst (λ (xs : List Interval). Holds (range_at xs v) (y v)) same ((there.inside y j).inside v (subst (λ (xs : List Interval). v < length xs) (sym same) hv))
    ]) x h;
  };
}

pub like_tied : (t u : TiedView) (o : OctagonView) → u.group ≡ t.group → IsTied t.group t.ties → IsTied u.group u.ties → o.variables ≡ t.ties.variables → ((x : ℕ → ℤ) → view.Holds o x ↔ view.Holds u.ties x) → IsTied t.group o
like_tied t u o same here there e each = record {
  counted = e ∙ here.counted;
  few = here.few;
  narrow = here.narrow;
  inside = λ x h. subst (λ (xs : List Interval). AreInside xs x) same (there.inside x ((each x).0 h));
}

pub like_points : (t u : TiedView) (o : OctagonView) (s : Spanned) → u.group ≡ t.group → IsTied t.group o → IsTied u.group u.ties → ((x : ℕ → ℤ) → view.Holds o x ↔ view.Holds u.ties x) → s ≡ record u.spans { empty = false } → HasPoint u
    → (p : Point) → In (record { group = t.group; ties = o; spans = s }) p ↔ In u p
like_points t u o s same here there each value some p =
    let e : s ≡ u.spans = value ∙ ap (λ (b : Bool). let r : Spanned = record u.spans { empty = b } in r) (sym some.is.spans.some) in (
      λ i. record { tied = there; ties = (each p.values).0 i.ties; spans = subst (λ (xs : List Interval). spanned.In u.spans (shifted (length xs) p)) (sym same) (subst (λ (z : Spanned). spanned.In z (shifted (length t.group) p)) e i.spans) },
      λ i. record { tied = here; ties = (each p.values).1 i.ties; spans = subst (λ (z : Spanned). spanned.In z (shifted (length t.group) p)) (sym e) (subst (λ (xs : List Interval). spanned.In u.spans (shifted (length xs) p)) same i.spans) },
    )
