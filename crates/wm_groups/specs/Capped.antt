-- Ties beside ranges that are cut by one bound, and that they hold what meets all bounds.
use Rattle.std.proofs.Common.{◌≡◌, ◌≢◌, ◌⊎◌, inl, inr, ℕ, ◌+◌, ◌-◌, ◌*◌, ◌/◌, ◌%◌, ◌<◌, ◌≤◌, ℤ, pos, neg_ℤ, ◌≤ℤ◌, ◌+ℤ◌, ◌-ℤ◌, List, ◌++◌, length, Option, Some, None, Bool, true, false, cond, nat_eq, sym, ◌∙◌, ap, subst, arith, refl}
use Rattle.std.specs.Prelude.{◌↔◌}
use Rattle.std.specs.Int.{int_min}
use Rattle.std.proofs.lemmas.Bool.{cases_eq, cases_lt}
use Rattle.std.proofs.lemmas.Int.{ints, clamps}
use Rattle.std.proofs.lemmas.List.{length-append}
use Rattle.wm_interval.specs.declared.Interval.{Interval}
use Rattle.wm_arrays.specs.declared.summary.Summary.{Summary}
use Rattle.wm_domain.specs.Points.{Point, range_at, IsNarrow, AllowsCell}
use Rattle.wm_domain.specs.declared.form.Term.{Term}
use Rattle.wm_domain.specs.Forms.{signed, term_value}
use Rattle.wm_domain.specs.declared.shape.Shape.{Shape}
use Rattle.wm_octagon.specs.Layout.{opposite, row_len, entry, table}
use Rattle.wm_octagon.specs.Closing.{half_of}
use Rattle.wm_octagon.specs.Points.{side_value, IsPoint}
use Rattle.wm_octagon.specs.View as view
use Rattle.wm_octagon.specs.View.{OctagonView, Holds}
use Rattle.wm_octagon.proofs.Rows.{entry-table}
use Rattle.wm_octagon.proofs.Tables.{opposite-lt, half_le, le_half}
use Rattle.wm_octagon.proofs.Tight.{column-lt, mirror_in}
use Rattle.wm_octagon.proofs.Attained.{side_value-even, side_value-odd, side_value-opposite}
use Rattle.wm_octagon.proofs.Moves.{even_or_odd, side_plus, side_minus}
use Rattle.wm_ties.specs.Exact.{AreInside}
use Rattle.wm_spans.specs.Spanned.{Spanned, cell_at}
use Rattle.wm_spans.specs.Spanned as spanned
use Rattle.wm_spans.proofs.Listed.{not_both}
use Rattle.wm_tied.specs.Pointed.{TiedView, IsTied, In, shape_of, shifted}
use Rattle.wm_tied.proofs.Mixed.{mixed, mixed_in}
use Rattle.wm_tied.proofs.Cutting.{past_number, past_lt}
use Rattle.wm_domain.specs.Bounds.{Bound, NoPoint, TermBelow, SumBelow, CellIn, Meets, IsBound, MeetsAll}
use Rattle.wm_spans.proofs.Capping.{IsCapped, term_capped, cells_capped}
use Rattle.wm_spans.proofs.Stable.{stable_le, stable_eq, stable_few, stable_within, stable_narrow, spans_closed}

-- ---- one more bound on two sides

-- the entry with the bound c at row k and column l
abbrev lowered : List ℤ → ℕ → ℕ → ℤ → ℕ → ℕ → ℤ
lowered xs k l c i j = cond (nat_eq i k) (cond (nat_eq j l) (int_min (entry xs i j) c) (entry xs i j)) (entry xs i j)

eq_true : (i k : ℕ) → i ≡ k → nat_eq i k ≡ true
eq_true i k e = grind arith

eq_false : (i k : ℕ) → i ≢ k → nat_eq i k ≡ false
eq_false i k e = grind arith

min_left : (x c : ℤ) → int_min x c ≤ℤ x
min_left x c = omega (arith, ints, clamps)

min_right : (x c : ℤ) → int_min x c ≤ℤ c
min_right x c = omega (arith, ints, clamps)

of_both : (x c z : ℤ) → z ≤ℤ x → z ≤ℤ c → z ≤ℤ int_min x c
of_both x c z h k = omega (arith, ints, clamps)

same_le : (x : ℤ) → x ≤ℤ x
same_le x = omega (arith, ints)

lowered-le : (xs : List ℤ) (k l : ℕ) (c : ℤ) (i j : ℕ) → lowered xs k l c i j ≤ℤ entry xs i j
lowered-le xs k l c i j = by (nat_eq i k) (nat_eq j l)
  where
    by : (a b : Bool) → cond a (cond b (int_min (entry xs i j) c) (entry xs i j)) (entry xs i j) ≤ℤ entry xs i j
    by true true = min_left _ c
    by true false = same_le _
    by false true = same_le _
    by false false = same_le _

lowered_here : (xs : List ℤ) (k l : ℕ) (c : ℤ) → lowered xs k l c k l ≤ℤ c
lowered_here xs k l c = rw (eq_true k k refl, eq_true l l refl) (min_right (entry xs k l) c)

le_lowered : (xs : List ℤ) (k l : ℕ) (c : ℤ) (i j : ℕ) (z : ℤ) → z ≤ℤ entry xs i j → (i ≡ k → j ≡ l → z ≤ℤ c) → z ≤ℤ lowered xs k l c i j
le_lowered xs k l c i j z h at = elim (cases_eq i k) [
  | inl e ↦ elim (cases_eq j l) [
    | inl f ↦ rw (eq_true i k e, eq_true j l f) (of_both _ _ z h (at e f))
    | inr f ↦ rw (eq_true i k e, eq_false j l f) h
  ]
  | inr e ↦ rw (eq_false i k e) h
]

-- the same variables, and the points that meet a fact
record IsCappedTie (o : OctagonView) (Fact : (ℕ → ℤ) → Type 0) : Type 0 where
  to : OctagonView
  variables : to.variables ≡ o.variables
  points : (x : ℕ → ℤ) → Holds to x ↔ (Holds o x × Fact x)

le_of : (x y z : ℤ) → x ≤ℤ y → y ≤ℤ z → x ≤ℤ z
le_of x y z h k = omega (arith, ints)

subst_side : (x : ℕ → ℤ) (i j k l : ℕ) (c : ℤ) → i ≡ k → j ≡ l → (side_value x l -ℤ side_value x k) ≤ℤ c → (side_value x j -ℤ side_value x i) ≤ℤ c
subst_side x i j k l c e f h = let a = ap (side_value x) e in let b = ap (side_value x) f in omega (arith, ints)

here_capped : (n : ℕ) (b : Option (List ℤ)) (k l : ℕ) (c : ℤ) → k < 2 * n → l < row_len k → IsCappedTie (record { variables = n; bounds = b }) (λ x. (side_value x l -ℤ side_value x k) ≤ℤ c)
here_capped n None k l c hk hl = record { to = record { variables = n; bounds = None }; variables = refl; points = λ x. (λ f. absurd f, λ w. w.0) }
here_capped n (Some xs) k l c hk hl = record {
  to = record { variables = n; bounds = Some (table (2 * n) (lowered xs k l c)) };
  variables = refl;
  points = λ x. (
    λ p. (
      record { meets = λ i j hi hj. le_of _ _ _ (p.meets i j hi hj) (subst (λ (z : ℤ). z ≤ℤ entry xs i j) (sym (entry-table (2 * n) (lowered xs k l c) i j hi hj)) (lowered-le xs k l c i j)) },
      le_of _ _ _ (p.meets k l hk hl) (subst (λ (z : ℤ). z ≤ℤ c) (sym (entry-table (2 * n) (lowered xs k l c) k l hk hl)) (lowered_here xs k l c)),
    ),
    λ w. record {
      meets = λ i j hi hj. subst (λ (z : ℤ). (side_value x j -ℤ side_value x i) ≤ℤ z) (sym (entry-table (2 * n) (lowered xs k l c) i j hi hj))
          (le_lowered xs k l c i j _ (w.0.meets i j hi hj) (λ e f. subst_side x i j k l c e f w.1));
    },
  );
}

mirror_side : (x : ℕ → ℤ) (k l : ℕ) (c : ℤ) → (side_value x (opposite k) -ℤ side_value x (opposite l)) ≤ℤ c → (side_value x l -ℤ side_value x k) ≤ℤ c
mirror_side x k l c h = let a = side_value-opposite x k in let b = side_value-opposite x l in omega (arith, ints)

side_mirror : (x : ℕ → ℤ) (k l : ℕ) (c : ℤ) → (side_value x l -ℤ side_value x k) ≤ℤ c → (side_value x (opposite k) -ℤ side_value x (opposite l)) ≤ℤ c
side_mirror x k l c h = let a = side_value-opposite x k in let b = side_value-opposite x l in omega (arith, ints)

sides_capped : (o : OctagonView) (k l : ℕ) (c : ℤ) → k < 2 * o.variables → l < 2 * o.variables → IsCappedTie o (λ x. (side_value x l -ℤ side_value x k) ≤ℤ c)
sides_capped o k l c hk hl = elim (cases_lt l (row_len k)) [
  | inl h ↦ here_capped o.variables o.bounds k l c hk h
  | inr h ↦ (
      let w = here_capped o.variables o.bounds (opposite l) (opposite k) c (opposite-lt o.variables l hl) (mirror_in k l h) in
      record {
        to = w.to;
        variables = w.variables;
        points = λ x. (λ p. let q = (w.points x).0 p in (q.0, mirror_side x k l c q.1), λ p. (w.points x).1 (p.0, side_mirror x k l c p.1));
      })
]

-- ---- terms as sides

record TermSide (t : Term) : Type 0 where
  side : ℕ
  half : side / 2 ≡ t.variable
  gives : (x : ℕ → ℤ) → side_value x side ≡ term_value x t

term_side : (v : ℕ) (b : Bool) → TermSide (record { variable = v; negative = b })
term_side v true = record { side = 2 * v + 1; half = omega arith; gives = λ x. side_minus x v }
term_side v false = record { side = 2 * v; half = omega arith; gives = λ x. side_plus x v }

side_lt : (k n v : ℕ) → k / 2 ≡ v → v < n → k < 2 * n
side_lt k n v e h = omega arith

twice : (a b c : ℤ) → b ≡ neg_ℤ a → a ≤ℤ c → (a -ℤ b) ≤ℤ (c +ℤ c)
twice a b c e h = omega (arith, ints)

once : (a b c : ℤ) → b ≡ neg_ℤ a → (a -ℤ b) ≤ℤ (c +ℤ c) → a ≤ℤ c
once a b c e h = omega (arith, ints)

sum_from : (x y a b k : ℤ) (c : ℤ) → x ≡ a → y ≡ b → k ≡ neg_ℤ x → (y -ℤ k) ≤ℤ c → (a +ℤ b) ≤ℤ c
sum_from x y a b k c e f g h = omega (arith, ints)

sum_to : (x y a b k : ℤ) (c : ℤ) → x ≡ a → y ≡ b → k ≡ neg_ℤ x → (a +ℤ b) ≤ℤ c → (y -ℤ k) ≤ℤ c
sum_to x y a b k c e f g h = omega (arith, ints)

term_capped_tie : (o : OctagonView) (t : Term) (c : ℤ) → t.variable < o.variables → IsCappedTie o (λ x. term_value x t ≤ℤ c)
term_capped_tie o t c hv =
    let s = term_side t.variable t.negative in
    let hl = side_lt s.side o.variables t.variable s.half hv in
    let w = sides_capped o (opposite s.side) s.side (c +ℤ c) (opposite-lt o.variables s.side hl) hl in
    record {
      to = w.to;
      variables = w.variables;
      points = λ x. (
        λ p. let q = (w.points x).0 p in (q.0, subst (λ (z : ℤ). z ≤ℤ c) (s.gives x) (once _ _ c (side_value-opposite x s.side) q.1)),
        λ p. (w.points x).1 (p.0, twice _ _ c (side_value-opposite x s.side) (subst (λ (z : ℤ). z ≤ℤ c) (sym (s.gives x)) p.1)),
      );
    }

sum_capped_tie : (o : OctagonView) (t u : Term) (c : ℤ) → t.variable < o.variables → u.variable < o.variables → IsCappedTie o (λ x. (term_value x t +ℤ term_value x u) ≤ℤ c)
sum_capped_tie o t u c ht hu =
    let s = term_side t.variable t.negative in
    let r = term_side u.variable u.negative in
    let hs = side_lt s.side o.variables t.variable s.half ht in
    let hr = side_lt r.side o.variables u.variable r.half hu in
    let w = sides_capped o (opposite s.side) r.side c (opposite-lt o.variables s.side hs) hr in
    record {
      to = w.to;
      variables = w.variables;
      points = λ x. (
        λ p. let q = (w.points x).0 p in (q.0, sum_from _ _ _ _ _ c (s.gives x) (r.gives x) (side_value-opposite x s.side) q.1),
        λ p. (w.points x).1 (p.0, sum_to _ _ _ _ _ c (s.gives x) (r.gives x) (side_value-opposite x s.side) p.1),
      );
    }

same_spans : (t : TiedView) (s : Spanned) → s.full ≡ t.spans.full → s.array_full ≡ t.spans.array_full → shape_of (record t { spans = s }) ≡ shape_of t
same_spans t s e f =
    ap (λ (xs : List Interval). let r : Shape = record { group = t.group; singles = xs; arrays = s.array_full } in r) e
    ∙ ap (λ (xs : List Interval). let r : Shape = record { group = t.group; singles = t.spans.full; arrays = xs } in r) f

-- ---- sides as terms

record SideTerm (k : ℕ) : Type 0 where
  term : Term
  variable_is : term.variable ≡ k / 2
  gives : (z : ℕ → ℤ) → term_value z term ≡ side_value z k

side_term : (k : ℕ) → SideTerm k
side_term k = elim (even_or_odd k) [
  | inl e ↦ record { term = record { variable = k / 2; negative = false }; variable_is = refl; gives = λ z. sym (side_value-even z k e) }
  | inr e ↦ record { term = record { variable = k / 2; negative = true }; variable_is = refl; gives = λ z. sym (side_value-odd z k e) }
]

far_nothing : (x : ℕ → ℤ) (k l : ℕ) (c : ℤ) → k ≡ l → (side_value x l -ℤ side_value x k) ≤ℤ c → pos 0 ≤ℤ c
far_nothing x k l c e h = let a = ap (side_value x) e in omega (arith, ints)

nothing_far : (x : ℕ → ℤ) (k l : ℕ) (c : ℤ) → k ≡ l → ((pos 0 ≤ℤ c → ⊥) → ⊥) → (side_value x l -ℤ side_value x k) ≤ℤ c
nothing_far x k l c e h = let a = ap (side_value x) e in let b = stable_le (pos 0) c h in omega (arith, ints)

far_own : (x : ℕ → ℤ) (k l : ℕ) (c : ℤ) → k / 2 ≡ l / 2 → k ≢ l → (side_value x l -ℤ side_value x k) ≤ℤ c → side_value x l ≤ℤ half_of c
far_own x k l c e ne h =
    let back : opposite l ≡ k = omega arith in
    let a = ap (side_value x) back in
    let b = side_value-opposite x l in
    let d = le_half c in
    omega (arith, ints)

own_far : (x : ℕ → ℤ) (k l : ℕ) (c : ℤ) → k / 2 ≡ l / 2 → k ≢ l → side_value x l ≤ℤ half_of c → (side_value x l -ℤ side_value x k) ≤ℤ c
own_far x k l c e ne h =
    let back : opposite l ≡ k = omega arith in
    let a = ap (side_value x) back in
    let b = side_value-opposite x l in
    let d = half_le c in
    omega (arith, ints)

far_pair : (x : ℕ → ℤ) (k l : ℕ) (a b c : ℤ) → a ≡ side_value x (opposite k) → b ≡ side_value x l → (side_value x l -ℤ side_value x k) ≤ℤ c → (a +ℤ b) ≤ℤ c
far_pair x k l a b c e f h = let g = side_value-opposite x k in omega (arith, ints)

pair_far : (x : ℕ → ℤ) (k l : ℕ) (a b c : ℤ) → a ≡ side_value x (opposite k) → b ≡ side_value x l → (a +ℤ b) ≤ℤ c → (side_value x l -ℤ side_value x k) ≤ℤ c
pair_far x k l a b c e f h = let g = side_value-opposite x k in omega (arith, ints)

-- ---- a state that is cut

pub record IsCut (t : TiedView) (b : Bound) : Type 0 where
  pub to : TiedView
  pub same : shape_of to ≡ shape_of t
  pub points : (p : Point) → In to p ↔ (In t p × Meets b p)

module _ (t : TiedView) (p : Point) (i : In t p) where
  none_cut : IsCut t NoPoint
  none_cut = record { to = record t { spans = record t.spans { empty = true } }; same = refl; points = λ q. (λ k. not_both k.spans.some, λ w. absurd w.1) }

  tie_cut : (b : Bound) (Fact : (ℕ → ℤ) → Type 0) → IsCappedTie t.ties Fact → ((q : Point) → Meets b q ↔ Fact q.values) → IsCut t b
  tie_cut b Fact w f = record {
    to = record t { ties = w.to };
    same = refl;
    points = λ q. (
      λ k. let h = (w.points q.values).0 k.ties in (record { tied = i.tied; ties = h.0; spans = k.spans }, (f q).1 h.1),
      λ k. record {
        tied = record { counted = w.variables ∙ i.tied.counted; few = i.tied.few; narrow = i.tied.narrow; inside = λ x h. i.tied.inside x ((w.points x).0 h).0 };
        ties = (w.points q.values).1 (k.0.ties, (f q).0 k.1);
        spans = k.0.spans;
      },
    );
  }

  span_cut : (b : Bound) (Fact : Point → Type 0) → IsCapped t.spans Fact → ((q : Point) → Meets b q ↔ Fact (shifted (length t.group) q)) → IsCut t b
  span_cut b Fact w f = record {
    to = record t { spans = w.to };
    same = same_spans t w.to w.full w.array_full;
    points = λ q. (
      λ k. let h = (w.points (shifted (length t.group) q)).0 k.spans in (record { tied = i.tied; ties = k.ties; spans = h.0 }, (f q).1 h.1),
      λ k. record { tied = i.tied; ties = k.0.ties; spans = (w.points (shifted (length t.group) q)).1 (k.0.spans, (f q).0 k.1) },
    );
  }

  in_ties : (v : ℕ) → v < length t.group → v < t.ties.variables
  in_ties v h = subst (λ (n : ℕ). v < n) (sym i.tied.counted) h

  past : (v : ℕ) → v < length (t.group ++ t.spans.full) → length t.group ≤ v → v - length t.group < length t.spans.full
  past v h g = past_lt (length t.group) (length t.spans.full) v (length (t.group ++ t.spans.full)) (length-append t.group t.spans.full) h g

  term_cut : (u : Term) (c : ℤ) → u.variable < length (t.group ++ t.spans.full) → IsCut t (TermBelow u c)
  term_cut u c h = elim (cases_lt u.variable (length t.group)) [
    | inl g ↦ tie_cut (TermBelow u c) (λ x. term_value x u ≤ℤ c) (term_capped_tie t.ties u c (in_ties u.variable g)) (λ q. (λ k. k, λ k. k))
    | inr g ↦ span_cut (TermBelow u c) (λ q. signed u.negative (q.values (u.variable - length t.group)) ≤ℤ c)
        (term_capped t.spans i.spans.kept (u.variable - length t.group) u.negative c (past u.variable h g))
        (λ q. let e = past_number (length t.group) u.variable g in
        (λ k. subst (λ (v : ℕ). signed u.negative (q.values v) ≤ℤ c) (sym e) k, λ k. subst (λ (v : ℕ). signed u.negative (q.values v) ≤ℤ c) e k))
  ]

  pub groups_cut : (b : Bound) → IsBound true (shape_of t) b → IsCut t b
  groups_cut NoPoint ok = none_cut
  groups_cut (TermBelow u c) ok = term_cut u c ok
  groups_cut (SumBelow u v c) ok = tie_cut (SumBelow u v c) (λ x. (term_value x u +ℤ term_value x v) ≤ℤ c) (sum_capped_tie t.ties u v c (in_ties u.variable ok.1) (in_ties v.variable ok.2)) (λ q. (λ k. k, λ k. k))
  groups_cut (CellIn a r) ok = span_cut (CellIn a r) (λ q. AllowsCell r (q.cells a)) (cells_capped t.spans i.spans.kept a r ok) (λ q. (λ k. k, λ k. k))

-- ---- what meets all bounds

module _ (t : TiedView) (p : Point) (all : MeetsAll true (shape_of t) (In t) p) where
  -- there is a point
  some : ((q : Point) → In t q → ⊥) → ⊥
  some none = all NoPoint tt none

  term_met : (u : Term) (c : ℤ) → u.variable < length (t.group ++ t.spans.full) → ((q : Point) → In t q → term_value q.values u ≤ℤ c) → term_value p.values u ≤ℤ c
  term_met u c h each = all (TermBelow u c) h each

  counted : t.ties.variables ≡ length t.group
  counted = stable_eq _ _ (λ no. some (λ q i. no i.tied.counted))

  in_group : (k v : ℕ) → k / 2 ≡ v → k < 2 * t.ties.variables → v < length t.group
  in_group k v e h = subst (λ (n : ℕ). v < n) counted (omega arith)

  in_both : (v : ℕ) → v < length t.group → v < length (t.group ++ t.spans.full)
  in_both v h = subst (λ (n : ℕ). v < n) (sym (length-append t.group t.spans.full)) (omega arith)

  far : (k l : ℕ) (c : ℤ) → k < 2 * t.ties.variables → l < 2 * t.ties.variables → ((q : Point) → In t q → (side_value q.values l -ℤ side_value q.values k) ≤ℤ c) → (side_value p.values l -ℤ side_value p.values k) ≤ℤ c
  far k l c hk hl each = elim (cases_eq (k / 2) (l / 2)) [
    | inl same ↦ elim (cases_eq k l) [
      | inl e ↦ nothing_far p.values k l c e (λ no. some (λ q i. no (far_nothing q.values k l c e (each q i))))
      | inr ne ↦ (
          let s = side_term l in
          own_far p.values k l c same ne (subst (λ (z : ℤ). z ≤ℤ half_of c) (s.gives p.values)
          (term_met s.term (half_of c) (in_both _ (in_group l _ (sym s.variable_is) hl)) (λ q i. subst (λ (z : ℤ). z ≤ℤ half_of c) (sym (s.gives q.values)) (far_own q.values k l c same ne (each q i))))))
    ]
    | inr ne ↦ (
        let a = side_term (opposite k) in
        let b = side_term l in
        let half : opposite k / 2 ≡ k / 2 = omega arith in
        let va = a.variable_is ∙ half in
        pair_far p.values k l _ _ c (a.gives p.values) (b.gives p.values)
        (all (SumBelow a.term b.term c) (cc, in_group k _ (sym va) hk, in_group l _ (sym b.variable_is) hl, λ q. ne (sym va ∙ q ∙ b.variable_is))
        (λ q i. far_pair q.values k l _ _ c (a.gives q.values) (b.gives q.values) (each q i))))
  ]

  met_by : (b : Option (List ℤ)) → t.ties.bounds ≡ b → view.PointOf t.ties.variables b p.values
  met_by None e = some (λ q i. subst (λ (b : Option (List ℤ)). view.PointOf t.ties.variables b q.values) e i.ties)
  met_by (Some xs) e = record {
    meets = λ k l hk here. far k l (entry xs k l) hk (column-lt t.ties.variables k l hk here)
        (λ q i. (subst (λ (b : Option (List ℤ)). view.PointOf t.ties.variables b q.values) e i.ties).meets k l hk here);
  }

  past_in : (v : ℕ) → v < length t.spans.full → length t.group + v < length (t.group ++ t.spans.full)
  past_in v hv = subst (λ (n : ℕ). length t.group + v < n) (sym (length-append t.group t.spans.full)) (omega arith)

  pub groups_closed : In t p
  groups_closed = record {
    tied = record {
      counted = counted;
      few = stable_few _ _ (λ no. some (λ q i. no i.tied.few));
      narrow = λ v hv. stable_narrow (range_at t.group v) (λ no. some (λ q i. no (i.tied.narrow v hv)));
      inside = λ x h. record { inside = λ v hv. stable_within _ _ (x v) (λ no. some (λ q i. no ((i.tied.inside x h).inside v hv))) };
    };
    ties = met_by t.ties.bounds refl;
    spans = spans_closed t.spans (shifted (length t.group) p) (λ none. some (λ q i. none (shifted (length t.group) q) i.spans))
        (λ v b c hv each. term_met (record { variable = length t.group + v; negative = b }) c (past_in v hv) (λ q i. each (shifted (length t.group) q) i.spans))
        (λ a r ha each. all (CellIn a r) ha (λ q i. each (shifted (length t.group) q) i.spans));
  }
