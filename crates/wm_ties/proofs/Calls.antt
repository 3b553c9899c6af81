-- The calls of an octagon leave exactly the wanted points, and these have 32 bits.
use Rattle.std.proofs.Common.{◌≡◌, ◌≢◌, ◌⊎◌, inl, inr, ℕ, ◌+◌, ◌*◌, ◌<◌, ℤ, pos, negsuc, ◌+ℤ◌, ◌-ℤ◌, ◌≤ℤ◌, neg_ℤ, List, length, map, Option, Some, None, Bool, true, false, sym, ◌∙◌, ap, subst, arith, refl, All}
use Rattle.std.specs.Prelude.{◌↔◌, IfSome, slice_index_or}
use Rattle.std.proofs.lemmas.Int.{ints}
use Rattle.std.proofs.lemmas.Bool.{cases_eq}
use Rattle.wm_numbers.specs.Within.{Within, IsWord32}
use Rattle.wm_interval.specs.declared.Interval.{Interval}
use Rattle.wm_interval.specs.Holds.{IsHullOf}
use Rattle.wm_domain.specs.declared.form.Term.{Term}
use Rattle.wm_domain.specs.Forms.{term_value}
use Rattle.wm_domain.specs.Points.{IsNarrow}
use Rattle.wm_octagon.specs.declared.octagon.Side.{Side}
use Rattle.wm_octagon.specs.Layout.{opposite}
use Rattle.wm_octagon.specs.Points.{side_value, IsPoint}
use Rattle.wm_octagon.specs.View as view
use Rattle.wm_octagon.specs.View.{OctagonView, Holds, IsLeast, IsTightView}
use Rattle.wm_octagon.specs.Joining.{InEither}
use Rattle.wm_octagon.specs.Sides.{number_of, signed, WithRange, WithSum, FreedOf, IsValueOf, IsRangeOf, IsGreatestSum}
use Rattle.wm_octagon.proofs.Tables.{opposite-lt}
use Rattle.wm_octagon.proofs.Attained.{side_value-opposite}
use Rattle.wm_octagon.proofs.Octagons.{signed-side, number-lt}
use Rattle.wm_ties.specs.Exact.{HasPoint, IsNarrowly, IsPairValue, SumWithin}
use Rattle.wm_ties.proofs.Reach.{reach, fewer, holds_of, reach_range}
use Rattle.wm_ties.proofs.Exactly.{freed_exactly}

-- ---- points of 32 bits

pub narrow_fewer : (o q : OctagonView) → q.variables ≡ o.variables → ((x : ℕ → ℤ) → Holds q x → Holds o x) → IsNarrowly o → IsNarrowly q
narrow_fewer o q e f n = record { words = λ x p v hv. n.words x (f x p) v (subst (λ (k : ℕ). v < k) e hv) }

pub narrow_least : (q : OctagonView) (P : (ℕ → ℤ) → Type 0) → IsLeast q P → ((x : ℕ → ℤ) → P x → (v : ℕ) → v < q.variables → IsWord32 (x v)) → IsNarrowly q
narrow_least q P t all = record { words = λ x p v hv. reach_range q P v (negsuc 2147483647) (pos 2147483647) hv t (λ y w. all y w v hv) x p }

-- ---- ranges

pub cut_exactly : (o q : OctagonView) (v : ℕ) (low high : ℤ) → v < o.variables → q.variables ≡ o.variables → IsLeast q (WithRange o v low high) → (x : ℕ → ℤ) → Holds q x ↔ WithRange o v low high x
cut_exactly o q v low high hv e t x = (
  λ p. record {
    point = fewer o q (WithRange o v low high) e t (λ y w. w.point) x p;
    inside = reach_range q (WithRange o v low high) v low high (subst (λ (k : ℕ). v < k) (sym e) hv) t (λ y w. w.inside) x p;
  },
  λ w. holds_of q (WithRange o v low high) t x w,
)

pub cut_narrow : (o q : OctagonView) (v : ℕ) (low high : ℤ) → q.variables ≡ o.variables → IsLeast q (WithRange o v low high) → IsNarrowly o → IsNarrowly q
cut_narrow o q v low high e t n = narrow_fewer o q e (fewer o q (WithRange o v low high) e t (λ y w. w.point)) n

pub free_exactly : (o q : OctagonView) (v : ℕ) (low high : ℤ) → v < o.variables → q.variables ≡ o.variables → IsTightView o → IsLeast q (FreedOf o v low high) → (x : ℕ → ℤ) → Holds q x ↔ FreedOf o v low high x
free_exactly o q v low high hv e tight t x = (λ p. freed_exactly o q v low high hv e tight t x p, λ w. holds_of q (FreedOf o v low high) t x w)

in_word : (r : Interval) (z : ℤ) → IsNarrow r → Within r.low r.high z → IsWord32 z
in_word r z n w = let a = n.low_fits.above in let b = n.high_fits.below in let c = w.above in let d = w.below in record { above = omega (arith, ints); below = omega (arith, ints) }

pub free_narrow : (o q : OctagonView) (v : ℕ) (r : Interval) → q.variables ≡ o.variables → IsLeast q (FreedOf o v r.low r.high) → IsNarrow r → IsNarrowly o → IsNarrowly q
free_narrow o q v r e t i n = narrow_least q (FreedOf o v r.low r.high) t (λ x w u hu. elim (cases_eq u v) [
  | inl here ↦ subst (λ (k : ℕ). IsWord32 (x k)) (sym here) (in_word r (x v) i w.value)
  | inr there ↦ subst IsWord32 (sym (w.others u there)) (n.words w.was w.point u (subst (λ (k : ℕ). u < k) e hu))
])

pub range_hull : (o : OctagonView) (v : ℕ) (r : Interval) → IsRangeOf o v r.low r.high → IsHullOf (IsValueOf o v) r
range_hull o v r h = record { low_is = h.least; high_is = h.greatest }

pub range_narrow : (o : OctagonView) (v : ℕ) (r : Interval) → v < o.variables → IsNarrowly o → IsRangeOf o v r.low r.high → IsNarrow r
range_narrow o v r hv n h =
    let a = h.least.attained in
    let b = h.greatest.attained in
    record { low_fits = subst IsWord32 a.gives (n.words a.x a.point v hv); high_fits = subst IsWord32 b.gives (n.words b.x b.point v hv) }

-- ---- sums

pub cap_exactly : (o q : OctagonView) (a b : Side) (c : ℤ) → a.variable < o.variables → b.variable < o.variables → q.variables ≡ o.variables → IsLeast q (WithSum o a b c) → (x : ℕ → ℤ) → Holds q x ↔ WithSum o a b c x
cap_exactly o q a b c ha hb e t x = (
  λ p. record {
    point = fewer o q (WithSum o a b c) e t (λ y w. w.point) x p;
    bounded =
        let k_in = opposite-lt q.variables (number_of a) (number-lt q.variables a (subst (λ (k : ℕ). a.variable < k) (sym e) ha)) in
        let l_in = number-lt q.variables b (subst (λ (k : ℕ). b.variable < k) (sym e) hb) in
        let r = reach q (WithSum o a b c) t x p (opposite (number_of a)) (number_of b) k_in l_in in
        let far = r.far in
        let w = r.is.bounded in
        let s1 = side_value-opposite x (number_of a) in
        let s2 = side_value-opposite r.y (number_of a) in
        let s3 = signed-side x a in
        let s4 = signed-side x b in
        let s5 = signed-side r.y a in
        let s6 = signed-side r.y b in
        omega (arith, ints);
  },
  λ w. holds_of q (WithSum o a b c) t x w,
)

pub cap_narrow : (o q : OctagonView) (a b : Side) (c : ℤ) → q.variables ≡ o.variables → IsLeast q (WithSum o a b c) → IsNarrowly o → IsNarrowly q
cap_narrow o q a b c e t n = narrow_fewer o q e (fewer o q (WithSum o a b c) e t (λ y w. w.point)) n

-- a term's value has 32 bits, but for one more
abbrev pub IsSmall : ℤ → Type 0
IsSmall z = Within (negsuc 4294967295) (pos 4294967296) z

half_small : (b : Bool) (z : ℤ) → IsWord32 z → Within (negsuc 2147483647) (pos 2147483648) (term_value (λ (k : ℕ). z) (record { variable = 0; negative = b }))
half_small true z w = let a = w.above in let b = w.below in record { above = omega (arith, ints); below = omega (arith, ints) }
half_small false z w = let a = w.above in let b = w.below in record { above = omega (arith, ints); below = omega (arith, ints) }

pub term_small : (o : OctagonView) (t : Term) (x : ℕ → ℤ) → t.variable < o.variables → IsNarrowly o → Holds o x → Within (negsuc 2147483647) (pos 2147483648) (term_value x t)
term_small o t x h n p = half_small t.negative (x t.variable) (n.words x p t.variable h)

sum_small : (y z : ℤ) → Within (negsuc 2147483647) (pos 2147483648) y → Within (negsuc 2147483647) (pos 2147483648) z → IsSmall (y +ℤ z)
sum_small y z h k = let a = h.above in let b = h.below in let c = k.above in let d = k.below in record { above = omega (arith, ints); below = omega (arith, ints) }

pub pair_small : (o : OctagonView) (a b : Term) (x : ℕ → ℤ) → a.variable < o.variables → b.variable < o.variables → IsNarrowly o → Holds o x → IsSmall (term_value x a +ℤ term_value x b)
pair_small o a b x ha hb n p = sum_small (term_value x a) (term_value x b) (term_small o a x ha n p) (term_small o b x hb n p)

module _ (o : OctagonView) (a b : Term) (sa sb : Side) (va : (x : ℕ → ℤ) → signed x sa ≡ term_value x a) (vb : (x : ℕ → ℤ) → signed x sb ≡ term_value x b) where
  sum_le : (c : ℤ) (x : ℕ → ℤ) → (signed x sa +ℤ signed x sb) ≤ℤ c → (term_value x a +ℤ term_value x b) ≤ℤ c
  sum_le c x h = let e = va x in let f = vb x in omega (arith, ints)

  sum_of : (c : ℤ) (x : ℕ → ℤ) → (term_value x a +ℤ term_value x b) ≤ℤ c → (signed x sa +ℤ signed x sb) ≤ℤ c
  sum_of c x h = let e = va x in let f = vb x in omega (arith, ints)

  module _ (na nb : Side) (wa : (x : ℕ → ℤ) → signed x na ≡ neg_ℤ (term_value x a)) (wb : (x : ℕ → ℤ) → signed x nb ≡ neg_ℤ (term_value x b)) where
    back_le : (c : ℤ) (x : ℕ → ℤ) → (signed x na +ℤ signed x nb) ≤ℤ c → neg_ℤ (term_value x a +ℤ term_value x b) ≤ℤ c
    back_le c x h = let e = wa x in let f = wb x in omega (arith, ints)

    back_of : (c : ℤ) (x : ℕ → ℤ) → neg_ℤ (term_value x a +ℤ term_value x b) ≤ℤ c → (signed x na +ℤ signed x nb) ≤ℤ c
    back_of c x h = let e = wa x in let f = wb x in omega (arith, ints)

    pub cut_sum_exactly : (mid q : OctagonView) (low high c d : ℤ) → IsNarrowly o → a.variable < o.variables → b.variable < o.variables
        → ((y : ℤ) → IsSmall y → (y ≤ℤ c) ↔ (y ≤ℤ high)) → ((y : ℤ) → IsSmall y → (neg_ℤ y ≤ℤ d) ↔ (low ≤ℤ y))
        → ((x : ℕ → ℤ) → Holds mid x ↔ WithSum o sa sb c x) → ((x : ℕ → ℤ) → Holds q x ↔ WithSum mid na nb d x) → (x : ℕ → ℤ) → Holds q x ↔ SumWithin o a b low high x
    cut_sum_exactly mid q low high c d n ha hb up down first second x = (
      λ p.
          let s = (second x).0 p in
          let f = (first x).0 s.point in
          let y = pair_small o a b x ha hb n f.point in
          record {
            point = f.point;
            inside = record {
              above = (down (term_value x a +ℤ term_value x b) y).0 (back_le d x s.bounded);
              below = (up (term_value x a +ℤ term_value x b) y).0 (sum_le c x f.bounded);
            };
          },
      λ w.
          let y = pair_small o a b x ha hb n w.point in
          (second x).1 (record {
            point = (first x).1 (record { point = w.point; bounded = sum_of c x ((up (term_value x a +ℤ term_value x b) y).1 w.inside.below) });
            bounded = back_of d x ((down (term_value x a +ℤ term_value x b) y).1 w.inside.above);
          }),
    )

    -- the greatest sum, and that of the negatives
    pub pair_hull : (r : Interval) (low high : ℤ) → r.low ≡ neg_ℤ low → r.high ≡ high → IsGreatestSum o sa sb high → IsGreatestSum o na nb low → IsHullOf (IsPairValue o a b) r
    pair_hull r low high e f g h = record {
      low_is = record {
        attained = let w = h.attained in let i = wa w.x in let j = wb w.x in let k = w.gives in record { x = w.x; point = w.point; gives = omega (arith, ints) };
        least = λ z w. let i = wa w.x in let j = wb w.x in let k = w.gives in let m = h.greatest (signed w.x na +ℤ signed w.x nb) (record { x = w.x; point = w.point; gives = refl }) in omega (arith, ints);
      };
      high_is = record {
        attained = let w = g.attained in let i = va w.x in let j = vb w.x in let k = w.gives in record { x = w.x; point = w.point; gives = omega (arith, ints) };
        greatest = λ z w. let i = va w.x in let j = vb w.x in let k = w.gives in let m = g.greatest (signed w.x sa +ℤ signed w.x sb) (record { x = w.x; point = w.point; gives = refl }) in omega (arith, ints);
      };
    }

    pub high_small : (high : ℤ) → IsNarrowly o → a.variable < o.variables → b.variable < o.variables → IsGreatestSum o sa sb high → IsSmall high
    high_small high n ha hb g =
        let w = g.attained in
        let y = pair_small o a b w.x ha hb n w.point in
        let i = va w.x in
        let j = vb w.x in
        let k = w.gives in
        let y1 = y.above in
        let y2 = y.below in
        record { above = omega (arith, ints); below = omega (arith, ints) }

    pub low_small : (low : ℤ) → IsNarrowly o → a.variable < o.variables → b.variable < o.variables → IsGreatestSum o na nb low → IsSmall low
    low_small low n ha hb g =
        let w = g.attained in
        let y = pair_small o a b w.x ha hb n w.point in
        let i = wa w.x in
        let j = wb w.x in
        let k = w.gives in
        let y1 = y.above in
        let y2 = y.below in
        record { above = omega (arith, ints); below = omega (arith, ints) }

    -- the lesser end is at most the greater
    pub ends_order : (low high : ℤ) → IsGreatestSum o sa sb high → IsGreatestSum o na nb low → neg_ℤ low ≤ℤ high
    ends_order low high g h =
        let w = g.attained in
        let i = va w.x in
        let j = vb w.x in
        let i2 = wa w.x in
        let j2 = wb w.x in
        let k = w.gives in
        let m = h.greatest (signed w.x na +ℤ signed w.x nb) (record { x = w.x; point = w.point; gives = refl }) in
        omega (arith, ints)

-- ---- joins

pub either_narrow : (o p q : OctagonView) → q.variables ≡ o.variables → o.variables ≡ p.variables → IsLeast q (InEither o p) → IsNarrowly o → IsNarrowly p → IsNarrowly q
either_narrow o p q e f t n m = narrow_least q (InEither o p) t (λ x w v hv. elim w [
  | inl h ↦ n.words x h v (subst (λ (k : ℕ). v < k) e hv)
  | inr h ↦ m.words x h v (subst (λ (k : ℕ). v < k) (e ∙ f) hv)
])

no_bound_by : (b : Option (List ℤ)) (n : ℕ) → n ≡ 0 → (y x : ℕ → ℤ) → view.PointOf n b y → view.PointOf n b x
no_bound_by None n e y x p = p
no_bound_by (Some xs) n e y x p = record { meets = λ k l hk hl. absurd (omega arith) }

-- without variables each point is all that there is
pub no_bound : (o : OctagonView) → o.variables ≡ 0 → (y x : ℕ → ℤ) → Holds o y → Holds o x
no_bound o e y x p = no_bound_by o.bounds o.variables e y x p

pub like_emptied : (o p q : OctagonView) → q.variables ≡ o.variables → o.variables ≡ p.variables → ((x : ℕ → ℤ) → Holds o x → ⊥) → IsLeast q (InEither o p) → (x : ℕ → ℤ) → Holds q x ↔ Holds p x
like_emptied o p q e f none t x = (
  λ h. fewer p q (InEither o p) (e ∙ f) t (λ y w. elim w [ inl k ↦ absurd (none y k) | inr k ↦ k ]) x h,
  λ h. holds_of q (InEither o p) t x (inr h),
)

pub like_small : (o p q : OctagonView) → q.variables ≡ o.variables → o.variables ≡ p.variables → o.variables ≡ 0 → HasPoint p → IsLeast q (InEither o p) → (x : ℕ → ℤ) → Holds q x ↔ Holds p x
like_small o p q e f zero some t x = (λ h. no_bound p (sym f ∙ zero) some.x x some.is, λ h. holds_of q (InEither o p) t x (inr h))
