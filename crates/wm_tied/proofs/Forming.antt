-- Terms and forms at the points of ties beside ranges.
use Rattle.std.proofs.Common.{◌≡◌, ◌≢◌, ◌⊎◌, inl, inr, ℕ, ◌+◌, ◌-◌, ◌<◌, ◌≤◌, ◌^◌, ℤ, pos, neg_ℤ, ◌≤ℤ◌, ◌+ℤ◌, ◌-ℤ◌, List, [], ◌∷◌, ◌++◌, length, Option, Some, None, Bool, true, false, cond, sym, ◌∙◌, ap, subst, arith, refl, to_z, of_z, w64}
use Rattle.std.specs.Prelude.{◌↔◌, if◌then◌else◌, unsigned_abs}
use Rattle.std.proofs.lemmas.Bool.{cases_eq, cases_lt}
use Rattle.std.proofs.lemmas.Int.{ints}
use Rattle.wm_numbers.proofs.Order.{le_trans, le_of_eq, neg_mono}
use Rattle.wm_numbers.specs.Within.{Within}
use Rattle.wm_interval.specs.declared.Interval.{Interval}
use Rattle.wm_interval.specs.Holds.{Holds, IsHullOf, SizesBelow}
use Rattle.wm_domain.specs.declared.form.Term.{Term}
use Rattle.wm_domain.specs.Points.{Point, range_at, SameBut}
use Rattle.wm_domain.specs.Forms.{signed, term_value, terms_value}
use Rattle.wm_domain.specs.Terms.{IsTermValue, Ranged, SumIn}
use Rattle.wm_domain.specs.Changes.{IsValueOf}
use Rattle.wm_domain.proofs.Moving.{signed-signed}
use Rattle.wm_domain.proofs.Placing.{Placing}
use Rattle.wm_octagon.specs.View.{OctagonView}
use Rattle.wm_octagon.specs.View as view
use Rattle.wm_ties.specs.Exact as exact
use Rattle.wm_spans.specs.Spanned as spanned
use Rattle.wm_spans.specs.Exact.{Bounded, IsSumValue}
use Rattle.wm_spans.proofs.Summing as summing
use Rattle.wm_spans.proofs.Forming.{two_terms_hull}
use Rattle.wm_tied.specs.Pointed.{TiedView, IsTied, In, HasPoint, InFull, shifted}
use Rattle.wm_tied.specs.Leaving.{IsAlike, IsExactly, Inside, IsLeft}
use Rattle.wm_tied.proofs.Mixed.{mix, mix-group, mixed, mixed_in, ties_alike}
use Rattle.wm_tied.proofs.Cutting.{in_full, past_number, past_lt}

-- ---- terms

pub term_hull : (Has : Point → Type 0) (t : Term) (r x : Interval) → IsHullOf (IsValueOf Has t.variable) r → x.low ≡ (if t.negative then neg_ℤ r.high else r.low) → x.high ≡ (if t.negative then neg_ℤ r.low else r.high) → IsHullOf (IsTermValue Has t) x
term_hull Has t r x h e f = by_sign t.negative refl
  where
    value : (z y : ℤ) → IsValueOf Has t.variable z → signed t.negative z ≡ y → IsTermValue Has t y
    value z y w g = record { x = w.x; is = w.is; gives = ap (signed t.negative) w.gives ∙ g }

    of_value : (z : ℤ) → IsTermValue Has t z → IsValueOf Has t.variable (signed t.negative z)
    of_value z w = record { x = w.x; is = w.is; gives = sym (signed-signed t.negative (w.x.values t.variable)) ∙ ap (signed t.negative) w.gives }

    from_minus : (z : ℤ) (b : Bool) → b ≡ true → signed b z ≡ neg_ℤ z
    from_minus z true g = refl
    from_minus z false g = cc

    from_plus : (z : ℤ) (b : Bool) → b ≡ false → signed b z ≡ z
    from_plus z true g = cc
    from_plus z false g = refl

    pick_minus : (y z : ℤ) (b : Bool) → b ≡ true → (if b then y else z) ≡ y
    pick_minus y z true g = refl
    pick_minus y z false g = cc

    pick_plus : (y z : ℤ) (b : Bool) → b ≡ false → (if b then y else z) ≡ z
    pick_plus y z true g = cc
    pick_plus y z false g = refl

    by_sign : (b : Bool) → t.negative ≡ b → IsHullOf (IsTermValue Has t) x
    by_sign true g = record {
      low_is = record {
        attained = value r.high x.low h.high_is.attained (from_minus r.high t.negative g ∙ sym (e ∙ pick_minus (neg_ℤ r.high) r.low t.negative g));
        least = λ z w. let k = h.high_is.greatest (signed t.negative z) (of_value z w) in let i = from_minus z t.negative g in let j = e ∙ pick_minus (neg_ℤ r.high) r.low t.negative g in omega (arith, ints);
      };
      high_is = record {
        attained = value r.low x.high h.low_is.attained (from_minus r.low t.negative g ∙ sym (f ∙ pick_minus (neg_ℤ r.low) r.high t.negative g));
        greatest = λ z w. let k = h.low_is.least (signed t.negative z) (of_value z w) in let i = from_minus z t.negative g in let j = f ∙ pick_minus (neg_ℤ r.low) r.high t.negative g in omega (arith, ints);
      };
    }
    by_sign false g = record {
      low_is = record {
        attained = value r.low x.low h.low_is.attained (from_plus r.low t.negative g ∙ sym (e ∙ pick_plus (neg_ℤ r.high) r.low t.negative g));
        least = λ z w. let k = h.low_is.least (signed t.negative z) (of_value z w) in let i = from_plus z t.negative g in let j = e ∙ pick_plus (neg_ℤ r.high) r.low t.negative g in omega (arith, ints);
      };
      high_is = record {
        attained = value r.high x.high h.high_is.attained (from_plus r.high t.negative g ∙ sym (f ∙ pick_plus (neg_ℤ r.low) r.high t.negative g));
        greatest = λ z w. let k = h.high_is.greatest (signed t.negative z) (of_value z w) in let i = from_plus z t.negative g in let j = f ∙ pick_plus (neg_ℤ r.low) r.high t.negative g in omega (arith, ints);
      };
    }

pub ranged_as : (t : TiedView) (Has : Point → Type 0) (w : Term) (r q : Interval) → ((z : ℤ) → Holds q z ↔ Holds r (signed w.negative z)) → IsExactly t (Bounded Has w.variable q) → IsExactly t (Ranged Has w r.low r.high)
ranged_as t Has w r q each x = record {
  made = λ p i. let b = x.made p i in let h = (each (p.values w.variable)).0 b.bounded in record { point = b.point; above = h.above; below = h.below };
  kept = λ p f b. x.kept p f (record { point = b.point; bounded = (each (p.values w.variable)).1 (record { above = b.above; below = b.below }) });
}

-- ---- a variable past the group is tied to no other

pub placing_past : (t : TiedView) (v : ℕ) → length t.group ≤ v → v < length t.group + length t.spans.full → Placing (In t) v
placing_past t v h hv = record {
  placed = λ p x y r hp hx hy s low high.
      let k = v - length t.group in
      let back = past_number (length t.group) v h in
      let law = summing.placing_in t.spans (v - length t.group) (past_lt (length t.group) (length t.spans.full) v (length t.group + length t.spans.full) refl hv h) in
      record {
        tied = hp.tied;
        ties = ties_alike t.ties p.values r.values (λ w hw. s.numbers w (not_same w (subst (λ (n : ℕ). w < n) hp.tied.counted hw))) hp.ties;
        spans = law.placed (shifted (length t.group) p) (shifted (length t.group) x) (shifted (length t.group) y) (shifted (length t.group) r) hp.spans hx.spans hy.spans
            (record { numbers = λ w ne. s.numbers (length t.group + w) (moved_apart w ne); cells = s.cells })
            (subst (λ (u : ℕ). x.values u ≤ℤ r.values u) (sym back) low) (subst (λ (u : ℕ). r.values u ≤ℤ y.values u) (sym back) high);
      };
}
  where
    not_same : (w : ℕ) → w < length t.group → w ≢ v
    not_same w hw q = absurd (let a : w < length t.group = hw in let b : length t.group ≤ v = h in omega arith)

    moved_apart : (w : ℕ) → w ≢ v - length t.group → length t.group + w ≢ v
    moved_apart w ne q = absurd (ne (omega arith))

-- ---- sums

swap_sum : (a b : ℤ) → b +ℤ (a +ℤ pos 0) ≡ a +ℤ (b +ℤ pos 0)
swap_sum a b = omega (arith, ints)

pub swapped_hull : (Has : Point → Type 0) (a b : Term) (r : Interval) → IsHullOf (IsSumValue Has (b ∷ a ∷ [])) r → IsHullOf (IsSumValue Has (a ∷ b ∷ [])) r
swapped_hull Has a b r h = record {
  low_is = record { attained = to r.low h.low_is.attained; least = λ z w. h.low_is.least z (back z w) };
  high_is = record { attained = to r.high h.high_is.attained; greatest = λ z w. h.high_is.greatest z (back z w) };
}
  where
    to : (z : ℤ) → IsSumValue Has (b ∷ a ∷ []) z → IsSumValue Has (a ∷ b ∷ []) z
    to z w = record { x = w.x; is = w.is; gives = sym (swap_sum (term_value w.x.values a) (term_value w.x.values b)) ∙ w.gives }

    back : (z : ℤ) → IsSumValue Has (a ∷ b ∷ []) z → IsSumValue Has (b ∷ a ∷ []) z
    back z w = record { x = w.x; is = w.is; gives = swap_sum (term_value w.x.values a) (term_value w.x.values b) ∙ w.gives }

plus_nothing : (x y : ℤ) → x +ℤ (y +ℤ pos 0) ≡ x +ℤ y
plus_nothing x y = omega (arith, ints)

pub tied_hull : (t : TiedView) (a b : Term) (r : Interval) → a.variable < length t.group → b.variable < length t.group → HasPoint t → (exact.HasPoint t.ties → IsHullOf (exact.IsPairValue t.ties a b) r) → IsHullOf (IsSumValue (In t) (a ∷ b ∷ [])) r
tied_hull t a b r ha hb h each =
    let k = each (record { x = h.point.values; is = h.is.ties }) in
    record {
      low_is = record { attained = at r.low k.low_is.attained; least = λ z w. k.low_is.least z (of_sum z w) };
      high_is = record { attained = at r.high k.high_is.attained; greatest = λ z w. k.high_is.greatest z (of_sum z w) };
    }
  where
    of_sum : (z : ℤ) → IsSumValue (In t) (a ∷ b ∷ []) z → exact.IsPairValue t.ties a b z
    of_sum z w = record { x = w.x.values; point = w.is.ties; gives = sym (plus_nothing (term_value w.x.values a) (term_value w.x.values b)) ∙ w.gives }

    two_same : (p q x y z : ℤ) → p ≡ x → q ≡ y → x +ℤ y ≡ z → p +ℤ (q +ℤ pos 0) ≡ z
    two_same p q x y z e f g = omega (arith, ints)

    at : (z : ℤ) → exact.IsPairValue t.ties a b z → IsSumValue (In t) (a ∷ b ∷ []) z
    at z w = record {
      x = mixed (length t.group) w.x (shifted (length t.group) h.point);
      is = mixed_in t w.x (shifted (length t.group) h.point) h.is.tied w.point h.is.spans;
      gives = two_same _ _ (term_value w.x a) (term_value w.x b) z
          (ap (signed a.negative) (mix-group (length t.group) w.x (shifted (length t.group) h.point).values a.variable ha))
          (ap (signed b.negative) (mix-group (length t.group) w.x (shifted (length t.group) h.point).values b.variable hb)) w.gives;
    }

module _ (t : TiedView) (tied : IsTied t.group t.ties) (o : OctagonView) (a b : Term) (low high : ℤ) (e : o.variables ≡ t.ties.variables) (points : (x : ℕ → ℤ) → view.Holds o x ↔ exact.SumWithin t.ties a b low high x) where
  pub sum_kept : IsTied t.group o
  sum_kept = record { counted = e ∙ tied.counted; few = tied.few; narrow = tied.narrow; inside = λ y h. tied.inside y ((points y).0 h).point }

  pub sum_exactly : IsExactly (record t { ties = o }) (SumIn (In t) (a ∷ b ∷ []) low high)
  sum_exactly = record {
    made = λ p i.
        let w = (points p.values).0 i.ties in
        let s = plus_nothing (term_value p.values a) (term_value p.values b) in
        record { point = record { tied = tied; ties = w.point; spans = i.spans }; above = subst (λ (z : ℤ). low ≤ℤ z) (sym s) w.inside.above; below = subst (λ (z : ℤ). z ≤ℤ high) (sym s) w.inside.below };
    kept = λ p f w.
        let s = plus_nothing (term_value p.values a) (term_value p.values b) in
        record { tied = sum_kept; ties = (points p.values).1 (record { point = w.point.ties; inside = record { above = subst (λ (z : ℤ). low ≤ℤ z) s w.above; below = subst (λ (z : ℤ). z ≤ℤ high) s w.below } }); spans = w.point.spans };
  }
