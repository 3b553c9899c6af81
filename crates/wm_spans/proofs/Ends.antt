-- The points at the ends of ranges and summaries.
use Rattle.std.proofs.Common.{◌≡◌, ◌≢◌, ◌⊎◌, inl, inr, ℕ, ◌<◌, ℤ, ◌≤ℤ◌, List, length, Bool, false, true, sym, ◌∙◌, ap, subst, refl, arith, Some, None, Option}
use Rattle.std.specs.Prelude.{◌↔◌}
use Rattle.std.proofs.lemmas.Int.{ints}
use Rattle.std.proofs.lemmas.Bool.{cases_eq}
use Rattle.wm_numbers.proofs.Order.{low_within, high_within}
use Rattle.wm_interval.specs.declared.Interval.{Interval}
use Rattle.wm_interval.specs.Holds.{Holds, IsHullOf}
use Rattle.wm_arrays.specs.declared.summary.Summary.{Summary}
use Rattle.wm_arrays.specs.Meaning.{Allows}
use Rattle.wm_domain.specs.declared.form.Term.{Term}
use Rattle.wm_domain.specs.Points.{Point, range_at, IsInside, SameBut, SameButCell, AllowsCell}
use Rattle.wm_domain.specs.Forms.{signed, term_value}
use Rattle.wm_domain.specs.Terms.{IsTermValue, Ranged}
use Rattle.wm_domain.specs.Changes.{IsValueOf}
use Rattle.wm_domain.proofs.Moving.{with_value-but, moved-here, with_term, with_term-value, signed-signed}
use Rattle.wm_spans.specs.Spanned.{Spanned, cell_at, Kept, In}
use Rattle.wm_spans.specs.Exact.{Exactly, Bounded}
use Rattle.wm_spans.proofs.Writing.{with_cell, with_cell-but, cell_moved-here}

pub exactly_as : (s : Spanned) (P Q : Point → Type 0) → ((p : Point) → P p → Q p) → ((p : Point) → Q p → P p) → Exactly s P → Exactly s Q
exactly_as s P Q f g e = record { made = λ p i. f p (e.made p i); kept = λ p i q. e.kept p i (g p q) }

-- a point with another number of its range, or another number of its summary
pub in_but : (s : Spanned) (p q : Point) (v : ℕ) → In s p → SameBut v p q → Holds (range_at s.ranges v) (q.values v) → In s q
in_but s p q v i b h = record {
  some = i.some;
  kept = i.kept;
  numbers = λ u hu. elim (cases_eq u v) [
    | inl e ↦ subst (λ (w : ℕ). Holds (range_at s.ranges w) (q.values w)) (sym e) h
    | inr ne ↦ subst (Holds (range_at s.ranges u)) (sym (b.numbers u ne)) (i.numbers u hu)
  ];
  cells = λ a ha. subst (AllowsCell (cell_at s.cells a)) (sym (b.cells a)) (i.cells a ha);
}

pub in_but_cell : (s : Spanned) (p q : Point) (a : ℕ) → In s p → SameButCell a p q → AllowsCell (cell_at s.cells a) (q.cells a) → In s q
in_but_cell s p q a i b h = record {
  some = i.some;
  kept = i.kept;
  numbers = λ u hu. subst (Holds (range_at s.ranges u)) (sym (b.numbers u)) (i.numbers u hu);
  cells = λ c hc. elim (cases_eq c a) [
    | inl e ↦ subst (λ (d : ℕ). AllowsCell (cell_at s.cells d) (q.cells d)) (sym e) h
    | inr ne ↦ subst (AllowsCell (cell_at s.cells c)) (sym (b.cells c ne)) (i.cells c hc)
  ];
}

-- p with a set cell that the summary allows
pub in_cell : (s : Spanned) (p : Point) (a : ℕ) (z : ℤ) → In s p → Allows (cell_at s.cells a) z → In s (with_cell p a (Some z))
in_cell s p a z i h = in_but_cell s p (with_cell p a (Some z)) a i (with_cell-but p a (Some z)) (subst (AllowsCell (cell_at s.cells a)) (sym (cell_moved-here p.cells a (Some z))) h)

abbrev pub lowest : Spanned → Point
lowest s = record { values = λ v. (range_at s.ranges v).low; cells = λ a. None }

abbrev pub highest : Spanned → Point
highest s = record { values = λ v. (range_at s.ranges v).high; cells = λ a. None }

module _ (s : Spanned) (k : Kept s) (some : s.empty ≡ false) where
  pub lowest_in : In s (lowest s)
  lowest_in = record { some = some; kept = k; numbers = λ v hv. low_within (range_at s.ranges v).ordered; cells = λ a ha. tt }

  pub highest_in : In s (highest s)
  highest_in = record { some = some; kept = k; numbers = λ v hv. high_within (range_at s.ranges v).ordered; cells = λ a ha. tt }

  pub range_hull : (v : ℕ) → v < length s.full → IsHullOf (IsValueOf (In s) v) (range_at s.ranges v)
  range_hull v hv = record {
    low_is = record { attained = record { x = lowest s; is = lowest_in; gives = refl }; least = λ z w. subst (λ (y : ℤ). (range_at s.ranges v).low ≤ℤ y) w.gives (w.is.numbers v hv).above };
    high_is = record { attained = record { x = highest s; is = highest_in; gives = refl }; greatest = λ z w. subst (λ (y : ℤ). y ≤ℤ (range_at s.ranges v).high) w.gives (w.is.numbers v hv).below };
  }

  -- the values of a term are those whose variable lies in its range
  pub term_hull : (t : Term) (r : Interval) → t.variable < length s.full → ((z : ℤ) → Holds r z ↔ Holds (range_at s.ranges t.variable) (signed t.negative z)) → IsHullOf (IsTermValue (In s) t) r
  term_hull t r hv each = record {
    low_is = record { attained = value_at r.low (low_within r.ordered); least = λ z w. (held z w).above };
    high_is = record { attained = value_at r.high (high_within r.ordered); greatest = λ z w. (held z w).below };
  }
    where
      value_at : (z : ℤ) → Holds r z → IsTermValue (In s) t z
      value_at z h = record {
        x = with_term (lowest s) t z;
        is = in_but s (lowest s) (with_term (lowest s) t z) t.variable lowest_in (with_value-but (lowest s) t.variable (signed t.negative z))
            (subst (Holds (range_at s.ranges t.variable)) (sym (moved-here (lowest s).values t.variable (signed t.negative z))) ((each z).0 h));
        gives = with_term-value (lowest s) t z;
      }

      held : (z : ℤ) → IsTermValue (In s) t z → Holds r z
      held z w = (each z).1 (subst (Holds (range_at s.ranges t.variable)) (sym (signed-signed t.negative (w.x.values t.variable)) ∙ ap (signed t.negative) w.gives) (w.is.numbers t.variable hv))

pub ranged_as : (s t : Spanned) (w : Term) (r q : Interval) → ((z : ℤ) → Holds q z ↔ Holds r (signed w.negative z)) → Exactly t (Bounded (In s) w.variable q) → Exactly t (Ranged (In s) w r.low r.high)
ranged_as s t w r q each e = exactly_as t (Bounded (In s) w.variable q) (Ranged (In s) w r.low r.high)
    (λ p b. let h = (each (p.values w.variable)).0 b.bounded in record { point = b.point; above = h.above; below = h.below })
    (λ p b. record { point = b.point; bounded = (each (p.values w.variable)).1 (record { above = b.above; below = b.below }) }) e
