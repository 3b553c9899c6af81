-- For the domain over it: ties beside ranges are what their ranges, sums and summaries tell; so what a call leaves is the
-- least state that keeps the wanted points.
use Rattle.std.proofs.Common.{◌≡◌, ◌≢◌, ◌⊎◌, inl, inr, ℕ, ◌+◌, ◌-◌, ◌*◌, ◌/◌, ◌%◌, ◌<◌, ◌≤◌, ℤ, pos, neg_ℤ, ◌≤ℤ◌, ◌+ℤ◌, ◌-ℤ◌, List, ◌++◌, length, Option, Some, None, Bool, true, false, sym, ◌∙◌, ap, subst, arith, refl}
use Rattle.std.proofs.lemmas.Bool.{cases_eq}
use Rattle.std.proofs.lemmas.Int.{ints}
use Rattle.std.proofs.lemmas.List.{length-append}
use Rattle.wm_numbers.proofs.Order.{le_trans}
use Rattle.wm_interval.specs.declared.Interval.{Interval}
use Rattle.wm_interval.specs.Holds.{Holds}
use Rattle.wm_arrays.specs.declared.summary.Summary.{Summary}
use Rattle.wm_arrays.specs.declared.summary.Summary.TheVariants.{Empty, Range}
use Rattle.wm_domain.specs.declared.form.Term.{Term}
use Rattle.wm_domain.specs.declared.shape.Shape.{Shape}
use Rattle.wm_domain.specs.Points.{Point, range_at, Alike, AllowsCell}
use Rattle.wm_domain.specs.Forms.{term_value}
use Rattle.wm_domain.specs.States.{IsReached, IsCellTold, IsTold, InShape, Keeps, IsLeast, count_of, array_count}
use Rattle.wm_octagon.specs.Layout.{opposite}
use Rattle.wm_octagon.specs.Points.{side_value}
use Rattle.wm_octagon.specs.View as view
use Rattle.wm_octagon.proofs.Tables.{opposite-lt}
use Rattle.wm_octagon.proofs.Tight.{column-lt}
use Rattle.wm_octagon.proofs.Attained.{side_value-even, side_value-odd, side_value-opposite}
use Rattle.wm_octagon.proofs.Moves.{even_or_odd}
use Rattle.wm_spans.specs.Spanned.{cell_at}
use Rattle.wm_spans.specs.Spanned as spanned
use Rattle.wm_tied.specs.Pointed.{TiedView, IsTied, In, InFull, shape_of, shifted}
use Rattle.wm_tied.specs.Leaving.{Inside, IsLeft, IsExactly}
use Rattle.wm_tied.proofs.Mixed.{ties_alike, spans_alike}
use Rattle.wm_tied.proofs.Bounding.{told_as, exactly_left}

-- ---- sides as terms

record SideTerm (k : ℕ) : Type 0 where
  term : Term
  variable_is : term.variable ≡ k / 2
  gives : (z : ℕ → ℤ) → term_value z term ≡ side_value z k

side_term : (k : ℕ) → SideTerm k
side_term k = elim (even_or_odd k) [
  | inl e ↦ record { term = record { variable = k / 2; negative = false }; variable_is = refl; gives = λ z. sym (side_value-even z k e) }
  | inr e ↦ record { term = record { variable = k / 2; negative = true }; variable_is = refl; gives = λ z. sym (side_value-odd z k e) }
]

-- each difference of two sides of a told point is reached
module _ (t : TiedView) (p : Point) (h : IsTold true (shape_of t) (In t) p) where
  abbrev Far : ℕ → ℕ → Type 0
  Far k l = IsReached (In t) (λ (z : ℕ → ℤ). side_value z l -ℤ side_value z k) p

  group_side : (k : ℕ) → k < 2 * t.ties.variables → k / 2 < length t.group
  group_side k hk = subst (λ (n : ℕ). k / 2 < n) h.some_is.tied.counted (omega arith)

  far_apart : (k l : ℕ) → k < 2 * t.ties.variables → l < 2 * t.ties.variables → k / 2 ≢ l / 2 → IsReached (In t) (λ (z : ℕ → ℤ). side_value z l -ℤ side_value z k) p
  far_apart k l hk hl ne =
      let a = side_term (opposite k) in
      let b = side_term l in
      let half : opposite k / 2 ≡ k / 2 = omega arith in
      let va = a.variable_is ∙ half in
      let r = h.pair refl a.term b.term (subst (λ (v : ℕ). v < length t.group) (sym va) (group_side k hk)) (subst (λ (v : ℕ). v < length t.group) (sym b.variable_is) (group_side l hl)) (λ q. ne (sym va ∙ q ∙ b.variable_is)) in
      let far = r.reaches in
      let a1 = a.gives p.values ∙ side_value-opposite p.values k in
      let a2 = a.gives r.x.values ∙ side_value-opposite r.x.values k in
      let b1 = b.gives p.values in
      let b2 = b.gives r.x.values in
      record { x = r.x; is = r.is; reaches = omega (arith, ints) }

  far_own : (k l : ℕ) → k < 2 * t.ties.variables → l < 2 * t.ties.variables → k / 2 ≡ l / 2 → k ≢ l → IsReached (In t) (λ (z : ℕ → ℤ). side_value z l -ℤ side_value z k) p
  far_own k l hk hl same ne =
      let b = side_term l in
      let back : opposite k ≡ l = omega arith in
      let r = h.each b.term (in_shape b.term.variable (subst (λ (v : ℕ). v < length t.group) (sym b.variable_is) (group_side l hl))) in
      let far = r.reaches in
      let b1 = b.gives p.values in
      let b2 = b.gives r.x.values in
      let c1 = side_value-opposite p.values k in
      let c2 = side_value-opposite r.x.values k in
      let d1 = ap (side_value p.values) back in
      let d2 = ap (side_value r.x.values) back in
      record { x = r.x; is = r.is; reaches = omega (arith, ints) }
    where
      in_shape : (v : ℕ) → v < length t.group → v < length (t.group ++ t.spans.full)
      in_shape v hv = subst (λ (n : ℕ). v < n) (sym (length-append t.group t.spans.full)) (omega arith)

  far_same : (k l : ℕ) → k ≡ l → IsReached (In t) (λ (z : ℕ → ℤ). side_value z l -ℤ side_value z k) p
  far_same k l e =
      let a = ap (side_value p.values) e in
      let b = ap (side_value h.some.values) e in
      record { x = h.some; is = h.some_is; reaches = omega (arith, ints) }

  far : (k l : ℕ) → k < 2 * t.ties.variables → l < 2 * t.ties.variables → IsReached (In t) (λ (z : ℕ → ℤ). side_value z l -ℤ side_value z k) p
  far k l hk hl = elim (cases_eq (k / 2) (l / 2)) [
    | inl same ↦ elim (cases_eq k l) [
      | inl e ↦ far_same k l e
      | inr ne ↦ far_own k l hk hl same ne
    ]
    | inr ne ↦ far_apart k l hk hl ne
  ]

  -- so it is a point of the ties
  told_by : (b : Option (List ℤ)) → t.ties.bounds ≡ b → view.PointOf t.ties.variables b p.values
  told_by None e = subst (λ (b : Option (List ℤ)). view.PointOf t.ties.variables b h.some.values) e h.some_is.ties
  told_by (Some xs) e = record {
    meets = λ k l hk here.
        let r = far k l hk (column-lt t.ties.variables k l hk here) in
        let reaches = r.reaches in
        let m = (subst (λ (b : Option (List ℤ)). view.PointOf t.ties.variables b r.x.values) e r.is.ties).meets k l hk here in
        omega (arith, ints);
  }

  above_from : (l x z : ℤ) → l ≤ℤ x → neg_ℤ z ≤ℤ neg_ℤ x → l ≤ℤ z
  above_from l x z a b = omega (arith, ints)

  allows_between : (s : Summary) (c d : Option ℤ) (l u z : ℤ) → c ≡ Some l → d ≡ Some u → AllowsCell s c → AllowsCell s d → l ≤ℤ z → z ≤ℤ u → AllowsCell s (Some z)
  allows_between s c d l u z e f x y low high = between s (subst (AllowsCell s) e x) (subst (AllowsCell s) f y)
    where
      between : (s : Summary) → AllowsCell s (Some l) → AllowsCell s (Some u) → AllowsCell s (Some z)
      between Empty x y = absurd x
      between (Range r) x y = record { above = le_trans x.above low; below = le_trans high y.below }

  cell_told : (a : ℕ) (c : Option ℤ) → a < length t.spans.array_full → IsCellTold (In t) a c → AllowsCell (cell_at t.spans.cells a) c
  cell_told a None ha f = tt
  cell_told a (Some z) ha f = allows_between (cell_at t.spans.cells a) (f.x.cells a) (f.y.cells a) f.low f.high z f.x_cell f.y_cell (f.x_is.spans.cells a ha) (f.y_is.spans.cells a ha) f.above f.below

  past_in : (v : ℕ) → v < length t.spans.full → length t.group + v < length (t.group ++ t.spans.full)
  past_in v hv = subst (λ (n : ℕ). length t.group + v < n) (sym (length-append t.group t.spans.full)) (omega arith)

  pub tied_told : In t p
  tied_told = record {
    tied = h.some_is.tied;
    ties = told_by t.ties.bounds refl;
    spans = record {
      some = h.some_is.spans.some;
      kept = h.some_is.spans.kept;
      numbers = λ v hv.
          let low = h.each (record { variable = length t.group + v; negative = true }) (past_in v hv) in
          let high = h.each (record { variable = length t.group + v; negative = false }) (past_in v hv) in
          record {
            above = above_from (range_at t.spans.ranges v).low (low.x.values (length t.group + v)) (p.values (length t.group + v)) (low.is.spans.numbers v hv).above low.reaches;
            below = le_trans high.reaches (high.is.spans.numbers v hv).below;
          };
      cells = λ a ha. cell_told a (p.cells a) ha (h.cells a ha);
    };
  }

-- ---- only the variables and arrays of the shape tell points apart

pub tied_alike : (t : TiedView) (p q : Point) → Alike (count_of (shape_of t)) (array_count (shape_of t)) p q → In t p → In t q
tied_alike t p q a i = record {
  tied = i.tied;
  ties = ties_alike t.ties p.values q.values (λ v hv. a.numbers v (in_shape v (subst (λ (n : ℕ). v < n) i.tied.counted hv))) i.ties;
  spans = spans_alike t.spans (shifted (length t.group) p) (shifted (length t.group) q) (λ v hv. a.numbers (length t.group + v) (past_shape v hv)) a.cells i.spans;
}
  where
    in_shape : (v : ℕ) → v < length t.group → v < length (t.group ++ t.spans.full)
    in_shape v hv = subst (λ (n : ℕ). v < n) (sym (length-append t.group t.spans.full)) (omega arith)

    past_shape : (v : ℕ) → v < length t.spans.full → length t.group + v < length (t.group ++ t.spans.full)
    past_shape v hv = subst (λ (n : ℕ). length t.group + v < n) (sym (length-append t.group t.spans.full)) (omega arith)

-- ---- least states, of any type of states that are seen so

module _ (S : Type 0) (seen : S → TiedView) (s : S) (P : Point → Type 0) (l : IsLeft (seen s) P) where
  pub left_keeps : Keeps (λ (r : S) (p : Point). In (seen r) p) (λ (r : S). shape_of (seen r)) s P
  left_keeps = record { kept = λ p i h. l.kept p i h }

  pub left_least : IsLeast (λ (r : S) (p : Point). In (seen r) p) (λ (r : S). shape_of (seen r)) s P
  left_least = record {
    least = λ r e k p h.
        tied_told (seen r) p (subst (λ (shape : Shape). IsTold true shape (In (seen r)) p) (sym e)
        (told_as (shape_of (seen s)) (Inside (seen s) P) (In (seen r)) p (λ q w. k.kept q (subst (λ (shape : Shape). InShape shape q) (sym e) w.inside) w.is) (l.told p h)));
  }
