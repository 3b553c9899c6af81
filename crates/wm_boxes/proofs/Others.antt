-- What is told of a box, and what writes and joins leave of it.
use Rattle.std.proofs.Common.{◌≡◌, inl, inr, ℕ, ◌<◌, ℤ, List, [], ◌∷◌, length, Bool, false, true, sym, ◌∙◌, ap, subst, refl, Some, None, Option}
use Rattle.std.specs.Prelude.{◌↔◌, IsTrue}
use Rattle.std.proofs.lemmas.Bool.{cases_eq}
use Rattle.wm_numbers.proofs.Order.{le_refl, le_of_eq, low_within, high_within}
use Rattle.wm_interval.specs.declared.Interval.{Interval}
use Rattle.wm_interval.specs.Holds.{Holds}
use Rattle.wm_arrays.specs.declared.summary.Summary.{Summary}
use Rattle.wm_arrays.specs.declared.summary.Summary.TheVariants.{Empty, Range}
use Rattle.wm_arrays.specs.Meaning.{Allows, IsLeastFor}
use Rattle.wm_domain.specs.Points.{Point, range_at, IsInside, AllowsCell}
use Rattle.wm_domain.specs.declared.form.Term.{Term}
use Rattle.wm_domain.specs.Forms.{signed, IsSimple, AreBounded}
use Rattle.wm_domain.specs.Changes.{Written, Near, InEither, IsCellOf}
use Rattle.wm_domain.specs.Terms.{NearTerm}
use Rattle.wm_domain.specs.States.{IsCellTold}
use Rattle.wm_spans.specs.Spanned.{Spanned, cell_at, Kept, In}
use Rattle.wm_spans.specs.Exact.{Leaves, Inside, IsSpanned, IsNearCell, IsBetweenCell}
use Rattle.wm_spans.proofs.Listed.{in_full, not_both}
use Rattle.wm_spans.proofs.Writing.{with_cell, cell_moved-here}
use Rattle.wm_spans.proofs.Ends.{lowest, lowest_in, in_cell}
use Rattle.wm_spans.proofs.Summing.{spanned_as}

-- ---- what is told

is_true : (b : Bool) → IsTrue b → b ≡ true
is_true true t = refl
is_true false t = cc

true_is : (b : Bool) → b ≡ true → IsTrue b
true_is b e = cc

pub bare_is : (s : Spanned) → Kept s → IsTrue s.empty ↔ ((p : Point) → In s p → ⊥)
bare_is s k = (λ t p i. not_both (sym (is_true s.empty t) ∙ i.some), λ h. bare s.empty refl h)
  where
    bare : (b : Bool) → s.empty ≡ b → ((p : Point) → In s p → ⊥) → IsTrue s.empty
    bare true e h = true_is s.empty e
    bare false e h = absurd (h (lowest s) (lowest_in s k e))

pub bare_of_empty : (s : Spanned) → s.empty ≡ true → (p : Point) → In s p → ⊥
bare_of_empty s e p i = not_both (sym e ∙ i.some)

pub cleared : (s t : Spanned) → t ≡ record s { empty = true } → (p : Point) → In t p → ⊥
cleared s t e p i = not_both (sym (ap (λ (u : Spanned). u.empty) e) ∙ i.some)

module _ (s : Spanned) (k : Kept s) (some : s.empty ≡ false) (a : ℕ) (ha : a < length s.array_full) where
  allowed : (z : ℤ) → IsCellOf (In s) a z → Allows (cell_at s.cells a) z
  allowed z w = subst (AllowsCell (cell_at s.cells a)) w.gives (w.is.cells a ha)

  attained : (z : ℤ) → Allows (cell_at s.cells a) z → IsCellOf (In s) a z
  attained z h = record { x = with_cell (lowest s) a (Some z); is = in_cell s (lowest s) a z (lowest_in s k some) h; gives = cell_moved-here (lowest s).cells a (Some z) }

  pub summary_told : (t : Summary) → t ≡ cell_at s.cells a → IsLeastFor (IsCellOf (In s) a) t
  summary_told Empty e = λ z w. subst (λ (y : Summary). Allows y z) (sym e) (allowed z w)
  summary_told (Range i) e = record {
    low_is = record { attained = attained i.low (subst (λ (y : Summary). Allows y i.low) e (low_within i.ordered)); least = λ z w. (held z w).above };
    high_is = record { attained = attained i.high (subst (λ (y : Summary). Allows y i.high) e (high_within i.ordered)); greatest = λ z w. (held z w).below };
  }
    where
      held : (z : ℤ) → IsCellOf (In s) a z → Holds i z
      held z w = subst (λ (y : Summary). Allows y z) (sym e) (allowed z w)

-- ---- writes

same_cell : (P : Point → Type 0) (b : ℕ) (q : Point) → P q → (c : Option ℤ) → q.cells b ≡ c → IsCellTold P b c
same_cell P b q h None e = tt
same_cell P b q h (Some z) e = record { x = q; y = q; x_is = h; y_is = h; low = z; high = z; x_cell = e; y_cell = e; above = le_refl z; below = le_refl z }

between_told : (P : Point → Type 0) (a : ℕ) (p : Point) (c : Option ℤ) → IsBetweenCell P a p c → IsCellTold P a c
between_told P a p None h = tt
between_told P a p (Some z) h = record { x = h.x; y = h.y; x_is = h.x_is; y_is = h.y_is; low = h.low; high = h.high; x_cell = h.x_cell; y_cell = h.y_cell; above = h.above; below = h.below }

near_spanned : (n m a : ℕ) (P : Point → Type 0) (p : Point) → IsNearCell P a p → IsSpanned n m P p
near_spanned n m a P p h = record {
  some = h.some;
  some_is = h.some_is;
  each = λ t ht. record { x = h.some; is = h.some_is; reaches = le_of_eq (ap (signed t.negative) (sym (h.same.numbers t.variable))) };
  cells = λ b hb. elim (cases_eq b a) [
    | inl e ↦ subst (λ (k : ℕ). IsCellTold P k (p.cells k)) (sym e) (between_told P a p (p.cells a) h.cell)
    | inr ne ↦ same_cell P b h.some h.some_is (p.cells b) (h.same.cells b ne)
  ];
}

some_is : (x z : ℤ) → Some x ≡ Some z → x ≡ z
some_is x z e = cc

written_inside : (s : Spanned) (a : ℕ) (r : Interval) (n : ℕ) (q : Point) → Written (In s) (range_at s.array_full a) a r n q → IsInside s.full s.array_full q
written_inside s a r n q w =
    let i = in_full s w.was w.point in
    record {
      numbers = λ v hv. subst (Holds (range_at s.full v)) (sym (w.others.numbers v)) (i.numbers v hv);
      set_cells = λ b z hb e. elim (cases_eq b a) [
        | inl h ↦ elim w.cell [
          | inl y ↦ subst (λ (k : ℕ). Holds (range_at s.array_full k) z) (sym h) (subst (Holds (range_at s.array_full a)) (some_is w.number z (sym y ∙ subst (λ (k : ℕ). q.cells k ≡ Some z) h e)) w.fits)
          | inr y ↦ i.set_cells b z hb (subst (λ (k : ℕ). w.was.cells k ≡ Some z) (sym h) (sym y.1 ∙ subst (λ (k : ℕ). q.cells k ≡ Some z) h e))
        ]
        | inr ne ↦ i.set_cells b z hb (sym (w.others.cells b ne) ∙ e)
      ];
    }

pub write_leaves : (s t : Spanned) (a : ℕ) (r : Interval) (n : ℕ) → t.full ≡ s.full → t.array_full ≡ s.array_full
    → ((p : Point) → IsInside s.full s.array_full p → Written (In s) (range_at s.array_full a) a r n p → In t p)
    → ((p : Point) → In t p → IsNearCell (Written (In s) (range_at s.array_full a) a r n) a p) → Leaves s t (Written (In s) (range_at s.array_full a) a r n)
write_leaves s t a r n e f kept near = record {
  full = e;
  array_full = f;
  kept = kept;
  spanned = λ p i. spanned_as (length s.full) (length s.array_full) (Written (In s) (range_at s.array_full a) a r n) (Inside s (Written (In s) (range_at s.array_full a) a r n)) p
      (λ q w. record { is = w; inside = written_inside s a r n q w }) (near_spanned (length s.full) (length s.array_full) a (Written (In s) (range_at s.array_full a) a r n) p (near p i));
}

-- ---- joins

either_inside : (s t : Spanned) (q : Point) → s.full ≡ t.full → s.array_full ≡ t.array_full → InEither (In s) (In t) q → IsInside s.full s.array_full q
either_inside s t q e f (inl i) = in_full s q i
either_inside s t q e f (inr i) = subst (λ (xs : List Interval). IsInside xs s.array_full q) (sym e) (subst (λ (xs : List Interval). IsInside t.full xs q) (sym f) (in_full t q i))

pub join_leaves : (s t u : Spanned) → s.full ≡ t.full → s.array_full ≡ t.array_full → u.full ≡ s.full → u.array_full ≡ s.array_full → ((p : Point) → InEither (In s) (In t) p → In u p)
    → ((p : Point) → In u p → IsSpanned (length s.full) (length s.array_full) (InEither (In s) (In t)) p) → Leaves s u (InEither (In s) (In t))
join_leaves s t u e f g h kept spanned = record {
  full = g;
  array_full = h;
  kept = λ p i w. kept p w;
  spanned = λ p i. spanned_as (length s.full) (length s.array_full) (InEither (In s) (In t)) (Inside s (InEither (In s) (In t))) p (λ q w. record { is = w; inside = either_inside s t q e f w }) (spanned p i);
}

-- ---- a variable near another

pub near_of_term : (s t : Spanned) (v w : ℕ) (d r : Interval) → Leaves s t (NearTerm (In s) v (record { variable = w; negative = false }) d r) → Leaves s t (Near (In s) v w d r)
near_of_term s t v w d r l = record {
  full = l.full;
  array_full = l.array_full;
  kept = λ p i n. l.kept p i (record { was = n.was; point = n.point; others = n.others; value = n.value; near = n.near });
  spanned = λ p i. spanned_as (length s.full) (length s.array_full) (Inside s (NearTerm (In s) v (record { variable = w; negative = false }) d r)) (Inside s (Near (In s) v w d r)) p
      (λ q n. record { is = record { was = n.is.was; point = n.is.point; others = n.is.others; value = n.is.value; near = n.is.near }; inside = n.inside }) (l.spanned p i);
}

-- ---- forms whose bounds are kept

no_pairs : {P : Type 0} → IsTrue false → P
no_pairs t = cc

-- where no bounds on pairs are kept, those of at most one term
pub simple_bounded : (n : ℕ) (ts : List Term) → AreBounded false n ts → IsSimple ts
simple_bounded n [] h = tt
simple_bounded n (t ∷ []) h = tt
simple_bounded n (t ∷ u ∷ rest) h = no_pairs h.0
