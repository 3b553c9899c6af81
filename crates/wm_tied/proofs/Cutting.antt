-- What the calls on one variable or one array leave.
use Rattle.std.proofs.Common.{◌≡◌, ◌≢◌, ◌⊎◌, inl, inr, ℕ, ◌+◌, ◌-◌, ◌<◌, ◌≤◌, ℤ, ◌≤ℤ◌, List, ◌++◌, length, Option, Some, None, Bool, true, false, sym, ◌∙◌, ap, subst, arith, refl, All}
use Rattle.std.specs.Prelude.{◌↔◌, IsTrue}
use Rattle.std.specs.Bool.{MatchBool}
use Rattle.std.proofs.lemmas.List.Elements.{All-get_or}
use Rattle.std.proofs.lemmas.Bool.{cases_eq, cases_lt}
use Rattle.std.proofs.lemmas.List.{length-append, get_or_append_left, get_or-append-add, get_or-append_right}
use Rattle.wm_numbers.specs.Within.{Within}
use Rattle.wm_numbers.proofs.Order.{low_within, high_within}
use Rattle.wm_interval.specs.declared.Interval.{Interval}
use Rattle.wm_interval.specs.Holds.{Holds, IsHullOf, InBoth}
use Rattle.wm_arrays.specs.declared.summary.Summary.{Summary}
use Rattle.wm_arrays.specs.declared.summary.Summary.TheVariants.{Empty, Range}
use Rattle.wm_arrays.specs.Meaning.{Allows, IsLeastFor}
use Rattle.wm_domain.specs.Points.{Point, range_at, nought, IsNarrow, IsInside, SameBut, SameButCell, AllowsCell}
use Rattle.wm_domain.specs.Changes.{IsValueOf, Freed, ArraySet, IsCellOf}
use Rattle.wm_octagon.specs.View.{OctagonView}
use Rattle.wm_octagon.specs.View as view
use Rattle.wm_octagon.specs.Sides as sides
use Rattle.wm_ties.specs.Exact.{AreInside}
use Rattle.wm_ties.specs.Exact as exact
use Rattle.wm_spans.specs.Spanned.{Spanned, cell_at, Kept}
use Rattle.wm_spans.specs.Spanned as spanned
use Rattle.wm_spans.specs.Exact.{Exactly, Bounded, IsBlank}
use Rattle.wm_spans.proofs.Listed.{not_both}
use Rattle.wm_spans.proofs.Listed as listed
use Rattle.wm_spans.proofs.Ends.{lowest, lowest_in, range_hull, in_cell}
use Rattle.wm_spans.proofs.Writing.{with_cell, cell_moved-here}
use Rattle.wm_tied.specs.Pointed.{TiedView, IsTied, In, HasPoint, InFull, shifted}
use Rattle.wm_tied.specs.Leaving.{IsExactly}
use Rattle.wm_tied.proofs.Mixed.{mix, mix-group, mix-past, mix-single, mixed, mixed_in, ties_alike, spans_alike}

-- ---- the full ranges

pub past_number : (n v : ℕ) → n ≤ v → n + (v - n) ≡ v
past_number n v h = omega arith

pub past_lt : (n m v k : ℕ) → k ≡ n + m → v < k → n ≤ v → v - n < m
past_lt n m v k e h j = omega arith

pub in_full : (t : TiedView) (p : Point) → In t p → InFull t p
in_full t p i =
    let w = listed.in_full t.spans (shifted (length t.group) p) i.spans in
    record {
      numbers = λ v hv. elim (cases_lt v (length t.group)) [
        | inl h ↦ subst (λ (r : Interval). Holds r (p.values v)) (sym (get_or_append_left t.group t.spans.full nought v h)) ((i.tied.inside p.values i.ties).inside v h)
        | inr h ↦ subst (λ (r : Interval). Holds r (p.values v)) (sym (get_or-append_right t.group t.spans.full (length t.group) v nought refl h))
            (subst (λ (u : ℕ). Holds (range_at t.spans.full (v - length t.group)) (p.values u)) (past_number (length t.group) v h)
            (w.numbers (v - length t.group) (past_lt (length t.group) (length t.spans.full) v (length (t.group ++ t.spans.full)) (length-append t.group t.spans.full) hv h)))
      ];
      set_cells = w.set_cells;
    }

in_both : (n m k v : ℕ) → k ≡ n + m → v < n → v < k
in_both n m k v e h = omega arith

in_rest : (n m k v : ℕ) → k ≡ n + m → v < m → n + v < k
in_rest n m k v e h = omega arith

pub full_group : (t : TiedView) (p : Point) → InFull t p → (v : ℕ) → v < length t.group → Holds (range_at t.group v) (p.values v)
full_group t p f v h = subst (λ (r : Interval). Holds r (p.values v)) (get_or_append_left t.group t.spans.full nought v h)
    (f.numbers v (in_both (length t.group) (length t.spans.full) (length (t.group ++ t.spans.full)) v (length-append t.group t.spans.full) h))

pub full_spans : (t : TiedView) (p : Point) → InFull t p → IsInside t.spans.full t.spans.array_full (shifted (length t.group) p)
full_spans t p f = record {
  numbers = λ v hv. subst (λ (r : Interval). Holds r (p.values (length t.group + v))) (get_or-append-add t.group t.spans.full v nought)
      (f.numbers (length t.group + v) (in_rest (length t.group) (length t.spans.full) (length (t.group ++ t.spans.full)) v (length-append t.group t.spans.full) hv));
  set_cells = f.set_cells;
}

-- ---- without a point

pub some_point : (t : TiedView) → IsTied t.group t.ties → Kept t.spans → t.spans.empty ≡ false → exact.HasPoint t.ties → HasPoint t
some_point t tied k e h = record { point = mixed (length t.group) h.x (lowest t.spans); is = mixed_in t h.x (lowest t.spans) tied h.is (lowest_in t.spans k e) }

pub bare_spans : (t : TiedView) → t.spans.empty ≡ true → (p : Point) → In t p → ⊥
bare_spans t e p i = not_both (sym e ∙ i.spans.some)

pub bare_ties : (t : TiedView) → ((x : ℕ → ℤ) → view.Holds t.ties x → ⊥) → (p : Point) → In t p → ⊥
bare_ties t none p i = none p.values i.ties

pub exactly_none : (t : TiedView) (P : Point → Type 0) → ((p : Point) → In t p → ⊥) → ((p : Point) → InFull t p → P p → ⊥) → IsExactly t P
exactly_none t P none all = record { made = λ p i. absurd (none p i); kept = λ p f h. absurd (all p f h) }

pub emptied : (t : TiedView) (s : Spanned) → s ≡ record t.spans { empty = true } → (p : Point) → In (record t { spans = s }) p → ⊥
emptied t s e p i = not_both (sym (ap (λ (u : Spanned). u.empty) e) ∙ i.spans.some)

-- ---- ranges

pub group_hull : (t : TiedView) (v : ℕ) (r : Interval) → v < length t.group → HasPoint t → (exact.HasPoint t.ties → IsHullOf (sides.IsValueOf t.ties v) r) → IsHullOf (IsValueOf (In t) v) r
group_hull t v r hv h each =
    let k = each (record { x = h.point.values; is = h.is.ties }) in
    record {
      low_is = record { attained = at r.low k.low_is.attained; least = λ z w. k.low_is.least z (record { x = w.x.values; point = w.is.ties; gives = w.gives }) };
      high_is = record { attained = at r.high k.high_is.attained; greatest = λ z w. k.high_is.greatest z (record { x = w.x.values; point = w.is.ties; gives = w.gives }) };
    }
  where
    at : (z : ℤ) → sides.IsValueOf t.ties v z → IsValueOf (In t) v z
    at z w = record {
      x = mixed (length t.group) w.x (shifted (length t.group) h.point);
      is = mixed_in t w.x (shifted (length t.group) h.point) h.is.tied w.point h.is.spans;
      gives = mix-group (length t.group) w.x (shifted (length t.group) h.point).values v hv ∙ w.gives;
    }

pub single_hull : (t : TiedView) (k : ℕ) (r : Interval) → k < length t.spans.full → Kept t.spans → HasPoint t → r ≡ range_at t.spans.ranges k → IsHullOf (IsValueOf (In t) (length t.group + k)) r
single_hull t k r hk kept h e =
    let g = subst (λ (x : Interval). IsHullOf (IsValueOf (spanned.In t.spans) k) x) (sym e) (range_hull t.spans kept h.is.spans.some k hk) in
    record {
      low_is = record { attained = at r.low g.low_is.attained; least = λ z w. g.low_is.least z (record { x = shifted (length t.group) w.x; is = w.is.spans; gives = w.gives }) };
      high_is = record { attained = at r.high g.high_is.attained; greatest = λ z w. g.high_is.greatest z (record { x = shifted (length t.group) w.x; is = w.is.spans; gives = w.gives }) };
    }
  where
    at : (z : ℤ) → IsValueOf (spanned.In t.spans) k z → IsValueOf (In t) (length t.group + k) z
    at z w = record {
      x = mixed (length t.group) h.point.values w.x;
      is = mixed_in t h.point.values w.x h.is.tied h.is.ties w.is;
      gives = mix-single (length t.group) h.point.values w.x.values k ∙ w.gives;
    }

pub past_hull : (t : TiedView) (v : ℕ) (r : Interval) → length t.group ≤ v → IsHullOf (IsValueOf (In t) (length t.group + (v - length t.group))) r → IsHullOf (IsValueOf (In t) v) r
past_hull t v r h g = subst (λ (u : ℕ). IsHullOf (IsValueOf (In t) u) r) (past_number (length t.group) v h) g

-- ---- a variable of the group is cut, or set free

module _ (t : TiedView) (tied : IsTied t.group t.ties) (v : ℕ) (r x : Interval) (hv : v < length t.group) (found : x ≡ range_at t.group v) where
  in_found : (p : Point) → InFull t p → Holds x (p.values v)
  in_found p f = subst (λ (y : Interval). Holds y (p.values v)) (sym found) (full_group t p f v hv)

  pub cut_none : ((z : ℤ) → InBoth x r z → ⊥) → (p : Point) → InFull t p → Bounded (In t) v r p → ⊥
  cut_none none p f b = none (p.values v) (in_found p f, b.bounded)

  pub free_none : ((z : ℤ) → InBoth x r z → ⊥) → (p : Point) → InFull t p → Freed (In t) v r p → ⊥
  free_none none p f b = none (p.values v) (in_found p f, b.value)

  module _ (common : Interval) (each : (z : ℤ) → Holds common z ↔ InBoth x r z) (o : OctagonView) (e : o.variables ≡ t.ties.variables) where
    pub cut_tied_kept : ((y : ℕ → ℤ) → view.Holds o y ↔ sides.WithRange t.ties v common.low common.high y) → IsTied t.group o
    cut_tied_kept points = record { counted = e ∙ tied.counted; few = tied.few; narrow = tied.narrow; inside = λ y h. tied.inside y ((points y).0 h).point }

    pub cut_tied_exactly : ((y : ℕ → ℤ) → view.Holds o y ↔ sides.WithRange t.ties v common.low common.high y) → IsExactly (record t { ties = o }) (Bounded (In t) v r)
    cut_tied_exactly points = record {
      made = λ p i. let w = (points p.values).0 i.ties in record { point = record { tied = tied; ties = w.point; spans = i.spans }; bounded = ((each (p.values v)).0 w.inside).1 };
      kept = λ p f b. record { tied = cut_tied_kept points; ties = (points p.values).1 (record { point = b.point.ties; inside = (each (p.values v)).1 (in_found p f, b.bounded) }); spans = b.point.spans };
    }

    in_group : (y : ℕ → ℤ) → sides.FreedOf t.ties v common.low common.high y → AreInside t.group y
    in_group y w = record {
      inside = λ u hu. elim (cases_eq u v) [
        | inl here ↦ subst (λ (k : ℕ). Holds (range_at t.group k) (y k)) (sym here) (subst (λ (i : Interval). Holds i (y v)) found ((each (y v)).0 w.value).0)
        | inr there ↦ subst (Holds (range_at t.group u)) (sym (w.others u there)) ((tied.inside w.was w.point).inside u hu)
      ];
    }

    pub free_tied_kept : ((y : ℕ → ℤ) → view.Holds o y ↔ sides.FreedOf t.ties v common.low common.high y) → IsTied t.group o
    free_tied_kept points = record { counted = e ∙ tied.counted; few = tied.few; narrow = tied.narrow; inside = λ y h. in_group y ((points y).0 h) }

    not_past : (k : ℕ) → length t.group + k ≢ v
    not_past k q = absurd (let h : v < length t.group = hv in omega arith)

    pub free_tied_exactly : ((y : ℕ → ℤ) → view.Holds o y ↔ sides.FreedOf t.ties v common.low common.high y) → IsExactly (record t { ties = o }) (Freed (In t) v r)
    free_tied_exactly points = record {
      made = λ p i.
          let w = (points p.values).0 i.ties in
          let q : Point = record { values = w.was; cells = p.cells } in
          record {
            was = q;
            point = record {
              tied = tied;
              ties = w.point;
              spans = spans_alike t.spans (shifted (length t.group) p) (shifted (length t.group) q) (λ k hk. sym (w.others (length t.group + k) (not_past k))) (λ a ha. refl) i.spans;
            };
            others = record { numbers = w.others; cells = λ a. refl };
            value = ((each (p.values v)).0 w.value).1;
          };
      kept = λ p f b. record {
        tied = free_tied_kept points;
        ties = (points p.values).1 (record { was = b.was.values; point = b.point.ties; others = b.others.numbers; value = (each (p.values v)).1 (in_found p f, b.value) });
        spans = spans_alike t.spans (shifted (length t.group) b.was) (shifted (length t.group) p) (λ k hk. b.others.numbers (length t.group + k) (not_past k)) (λ a ha. b.others.cells a) b.point.spans;
      };
    }

-- ---- a variable past the group is cut, or set free

module _ (t : TiedView) (tied : IsTied t.group t.ties) (s : Spanned) where
  pub cut_single_exactly : (k : ℕ) (r : Interval) → Exactly s (Bounded (spanned.In t.spans) k r) → IsExactly (record t { spans = s }) (Bounded (In t) (length t.group + k) r)
  cut_single_exactly k r x = record {
    made = λ p i. let b = x.made (shifted (length t.group) p) i.spans in record { point = record { tied = i.tied; ties = i.ties; spans = b.point }; bounded = b.bounded };
    kept = λ p f b. record { tied = b.point.tied; ties = b.point.ties; spans = x.kept (shifted (length t.group) p) (full_spans (record t { spans = s }) p f) (record { point = b.point.spans; bounded = b.bounded }) };
  }

  past_apart : (k w : ℕ) → length t.group ≤ w → w ≢ length t.group + k → w - length t.group ≢ k
  past_apart k w h ne q = absurd (ne (omega arith))

  rest_apart : (k w : ℕ) → w ≢ k → length t.group + w ≢ length t.group + k
  rest_apart k w ne q = absurd (ne (omega arith))

  group_apart : (k w : ℕ) → w < length t.group → w ≢ length t.group + k
  group_apart k w h q = absurd (let j : w < length t.group = h in omega arith)

  -- the numbers of a mixed point, where those past the group are known
  pub number_of : (p q : Point) (w : ℕ) → (length t.group ≤ w → p.values (length t.group + (w - length t.group)) ≡ q.values (w - length t.group)) → p.values w ≡ (mixed (length t.group) p.values q).values w
  number_of p q w e = elim (cases_lt w (length t.group)) [
    | inl h ↦ sym (mix-group (length t.group) p.values q.values w h)
    | inr h ↦ ap p.values (sym (past_number (length t.group) w h)) ∙ e h ∙ sym (mix-past (length t.group) p.values q.values w h)
  ]

  pub free_single_exactly : (k : ℕ) (r : Interval) → Exactly s (Freed (spanned.In t.spans) k r) → IsExactly (record t { spans = s }) (Freed (In t) (length t.group + k) r)
  free_single_exactly k r x = record {
    made = λ p i.
        let f = x.made (shifted (length t.group) p) i.spans in
        record {
          was = mixed (length t.group) p.values f.was;
          point = mixed_in t p.values f.was i.tied i.ties f.point;
          others = record { numbers = λ w ne. number_of p f.was w (λ h. f.others.numbers (w - length t.group) (past_apart k w h ne)); cells = f.others.cells };
          value = f.value;
        };
    kept = λ p f b. record {
      tied = b.point.tied;
      ties = ties_alike t.ties b.was.values p.values (λ w hw. b.others.numbers w (group_apart k w (subst (λ (m : ℕ). w < m) tied.counted hw))) b.point.ties;
      spans = x.kept (shifted (length t.group) p) (full_spans (record t { spans = s }) p f) (record {
        was = shifted (length t.group) b.was;
        point = b.point.spans;
        others = record { numbers = λ w ne. b.others.numbers (length t.group + w) (rest_apart k w ne); cells = b.others.cells };
        value = b.value;
      });
    };
  }

  pub set_array_exactly : (a : ℕ) (m : Summary) → Exactly s (ArraySet (spanned.In t.spans) a m) → IsExactly (record t { spans = s }) (ArraySet (In t) a m)
  set_array_exactly a m x = record {
    made = λ p i.
        let f = x.made (shifted (length t.group) p) i.spans in
        record {
          was = mixed (length t.group) p.values f.was;
          point = mixed_in t p.values f.was i.tied i.ties f.point;
          others = record { numbers = λ w. number_of p f.was w (λ h. f.others.numbers (w - length t.group)); cells = f.others.cells };
          cell = f.cell;
        };
    kept = λ p f b. record {
      tied = b.point.tied;
      ties = ties_alike t.ties b.was.values p.values (λ w hw. b.others.numbers w) b.point.ties;
      spans = x.kept (shifted (length t.group) p) (full_spans (record t { spans = s }) p f) (record {
        was = shifted (length t.group) b.was;
        point = b.point.spans;
        others = record { numbers = λ w. b.others.numbers (length t.group + w); cells = b.others.cells };
        cell = b.cell;
      });
    };
  }

-- the variable past the group, by its own number
pub past_exactly : (t u : TiedView) (P : ℕ → Point → Type 0) (v : ℕ) → length t.group ≤ v → IsExactly u (P (length t.group + (v - length t.group))) → IsExactly u (P v)
past_exactly t u P v h x = subst (λ (k : ℕ). IsExactly u (P k)) (past_number (length t.group) v h) x

-- ---- arrays

module _ (t : TiedView) (h : HasPoint t) (a : ℕ) (ha : a < length t.spans.array_full) where
  allowed : (z : ℤ) → IsCellOf (In t) a z → Allows (cell_at t.spans.cells a) z
  allowed z w = subst (AllowsCell (cell_at t.spans.cells a)) w.gives (w.is.spans.cells a ha)

  attained : (z : ℤ) → Allows (cell_at t.spans.cells a) z → IsCellOf (In t) a z
  attained z k = record {
    x = with_cell h.point a (Some z);
    is = record { tied = h.is.tied; ties = h.is.ties; spans = in_cell t.spans (shifted (length t.group) h.point) a z h.is.spans k };
    gives = cell_moved-here h.point.cells a (Some z);
  }

  pub summary_least : (s : Summary) → s ≡ cell_at t.spans.cells a → IsLeastFor (IsCellOf (In t) a) s
  summary_least Empty e = λ z w. subst (λ (y : Summary). Allows y z) (sym e) (allowed z w)
  summary_least (Range i) e = record {
    low_is = record { attained = attained i.low (subst (λ (y : Summary). Allows y i.low) e (low_within i.ordered)); least = λ z w. (held z w).above };
    high_is = record { attained = attained i.high (subst (λ (y : Summary). Allows y i.high) e (high_within i.ordered)); greatest = λ z w. (held z w).below };
  }
    where
      held : (z : ℤ) → IsCellOf (In t) a z → Holds i z
      held z w = subst (λ (y : Summary). Allows y z) (sym e) (allowed z w)

-- ---- inclusion

module _ (t u : TiedView) (h : HasPoint t) (group : u.group ≡ t.group) (tied : IsTied u.group u.ties) where
  pub within_both : ((x : ℕ → ℤ) → view.Holds t.ties x → view.Holds u.ties x) → ((p : Point) → spanned.In t.spans p → spanned.In u.spans p) → (p : Point) → In t p → In u p
  within_both f g p i = record { tied = tied; ties = f p.values i.ties; spans = subst (λ (xs : List Interval). spanned.In u.spans (shifted (length xs) p)) (sym group) (g (shifted (length t.group) p) i.spans) }

  pub within_ties : ((p : Point) → In t p → In u p) → (x : ℕ → ℤ) → view.Holds t.ties x → view.Holds u.ties x
  within_ties f x k =
      let q = shifted (length t.group) h.point in
      let i = f (mixed (length t.group) x q) (mixed_in t x q h.is.tied k h.is.spans) in
      ties_alike u.ties (mix (length t.group) x q.values) x (λ v hv. sym (mix-group (length t.group) x q.values v (subst (λ (xs : List Interval). v < length xs) group (subst (λ (n : ℕ). v < n) tied.counted hv)))) i.ties

  pub within_spans : ((p : Point) → In t p → In u p) → (q : Point) → spanned.In t.spans q → spanned.In u.spans q
  within_spans f q k =
      let i = f (mixed (length t.group) h.point.values q) (mixed_in t h.point.values q h.is.tied h.is.ties k) in
      let j = subst (λ (xs : List Interval). spanned.In u.spans (shifted (length xs) (mixed (length t.group) h.point.values q))) group i.spans in
      spans_alike u.spans (shifted (length t.group) (mixed (length t.group) h.point.values q)) q (λ v hv. sym (mix-single (length t.group) h.point.values q.values v)) (λ a ha. refl) j

pub never : {P : Type 0} → IsTrue false → P
never t = cc

pub true_is : (b : Bool) → b ≡ true → IsTrue b
true_is b e = cc

pub match_as : (b : Bool) (A B C D : Type 0) → (A → C) → (B → D) → MatchBool b A B → MatchBool b C D
match_as true A B C D f g m = f m
match_as false A B C D f g m = g m

pub single_range : (t : TiedView) (v n m : ℕ) (r : Interval) → n ≡ length t.group → m ≡ length t.group → n ≤ v → v < length t.group + length t.spans.full → Kept t.spans → HasPoint t → r ≡ range_at t.spans.ranges (v - m) → IsHullOf (IsValueOf (In t) v) r
single_range t v n m r e f h inside kept some g =
    let j : length t.group ≤ v = subst (λ (k : ℕ). k ≤ v) e h in
    past_hull t v r j (single_hull t (v - length t.group) r (past_lt (length t.group) (length t.spans.full) v (length t.group + length t.spans.full) refl inside j) kept some (g ∙ ap (λ (k : ℕ). range_at t.spans.ranges (v - k)) f))

-- ---- what is made anew

pub made_tied : (items group : List Interval) (o : OctagonView) → items ≡ group → length group ≤ 32 → All IsNarrow group → o.variables ≡ length group → ((x : ℕ → ℤ) → view.Holds o x ↔ AreInside group x) → IsTied items o
made_tied items group o e few narrow counted points = subst (λ (xs : List Interval). IsTied xs o) (sym e) (record {
  counted = counted;
  few = few;
  narrow = λ v hv. All-get_or IsNarrow group v nought hv narrow;
  inside = λ x h. (points x).0 h;
})

pub made_exactly : (t : TiedView) (group : List Interval) (n : ℕ) → t.group ≡ group → IsTied t.group t.ties → ((x : ℕ → ℤ) → view.Holds t.ties x ↔ AreInside group x) → Exactly t.spans (IsBlank n) → IsExactly t (IsBlank n)
made_exactly t group n e tied points x = record {
  made = λ p i. x.made (shifted (length t.group) p) i.spans;
  kept = λ p f b. record {
    tied = tied;
    ties = (points p.values).1 (subst (λ (xs : List Interval). AreInside xs p.values) e (record { inside = λ v hv. full_group t p f v hv }));
    spans = x.kept (shifted (length t.group) p) (full_spans t p f) b;
  };
}
