-- A variable that follows a term.
use Rattle.std.proofs.Common.{◌≡◌, ◌≢◌, ◌⊎◌, inl, inr, ℕ, ◌+◌, ◌*◌, ◌/◌, ◌^◌, ◌<◌, ℤ, pos, negsuc, ◌+ℤ◌, ◌-ℤ◌, ◌≤ℤ◌, neg_ℤ, List, Option, Some, None, Bool, true, false, sym, ◌∙◌, ap, subst, arith, refl}
use Rattle.std.specs.Prelude.{◌↔◌}
use Rattle.std.proofs.lemmas.Int.{ints}
use Rattle.std.proofs.lemmas.Bool.{cases_eq}
use Rattle.wm_numbers.specs.Within.{Within, IsWord32}
use Rattle.wm_interval.specs.declared.Interval.{Interval}
use Rattle.wm_interval.specs.Holds.{InBoth, SizesBelow}
use Rattle.wm_interval.specs.Holds as interval
use Rattle.wm_domain.specs.declared.form.Term.{Term}
use Rattle.wm_domain.specs.Forms.{term_value}
use Rattle.wm_domain.specs.Forms as forms
use Rattle.wm_domain.specs.Points.{IsNarrow}
use Rattle.wm_octagon.specs.Layout.{bound}
use Rattle.wm_octagon.specs.Points.{side_value, IsPoint, IsTight}
use Rattle.wm_octagon.specs.View as view
use Rattle.wm_octagon.specs.View.{OctagonView, Holds, IsLeast, IsTightView}
use Rattle.wm_octagon.specs.Sides.{WithRange}
use Rattle.wm_octagon.specs.Assigning.{AssignedOf}
use Rattle.wm_octagon.proofs.Tight.{meets_of, point_from}
use Rattle.wm_octagon.proofs.Fits.{assigned_plus}
use Rattle.wm_octagon.proofs.Moves.{moved, moved-here, moved-there, side_plus, side_minus, side_other, Which, plus, minus, other, which}
use Rattle.wm_ties.specs.Exact.{IsNarrowly, Beside, Follows}
use Rattle.wm_ties.proofs.Reach.{reach, holds_of}
use Rattle.wm_ties.proofs.Exactly.{assigned_exactly}
use Rattle.wm_ties.proofs.Calls.{cut_exactly, term_small}

-- ---- a variable with the value of another and a number

pub add_exactly : (o q : OctagonView) (v w : ℕ) (d : Interval) → v < o.variables → w < o.variables → q.variables ≡ o.variables → IsTightView o → IsLeast q (AssignedOf o v (2 * w) d.low d.high)
    → (x : ℕ → ℤ) → Holds q x ↔ AssignedOf o v (2 * w) d.low d.high x
add_exactly o q v w d hv hw e tight t x = (λ p. assigned_exactly o q v w d.low d.high hv hw d.ordered e tight t x p, λ a. holds_of q (AssignedOf o v (2 * w) d.low d.high) t x a)

size_low : (d : Interval) → SizesBelow (2 ^ 35) d → (negsuc 34359738367 ≤ℤ d.low) × (d.high ≤ℤ pos 34359738368)
size_low d s = let a = s.low_size in let b = s.high_size in (omega (arith, ints), omega (arith, ints))

pub add_sized : (o : OctagonView) (v w : ℕ) (d : Interval) → w < o.variables → IsNarrowly o → SizesBelow (2 ^ 35) d → (x : ℕ → ℤ) → AssignedOf o v (2 * w) d.low d.high x → Within (negsuc 68719476735) (pos 68719476736) (x v)
add_sized o v w d hw n s x a =
    let i = assigned_plus o v w d.low d.high (negsuc 2147483647) (pos 2147483647) (λ y p. n.words y p w hw) x a in
    let z = size_low d s in
    let z0 = z.0 in
    let z1 = z.1 in
    let i1 = i.above in
    let i2 = i.below in
    record { above = omega (arith, ints); below = omega (arith, ints) }

pub far_enough : (z : ℤ) → Within (negsuc 68719476735) (pos 68719476736) z → Within (negsuc 1099511627774) (pos 1099511627775) z
far_enough z w = let a = w.above in let b = w.below in record { above = omega (arith, ints); below = omega (arith, ints) }

-- ---- a variable turned to its negative

pub negated_value : (x : ℕ → ℤ) (z : ℤ) (v : ℕ) → z ≡ side_value x (2 * v + 1) +ℤ pos 0 → z ≡ neg_ℤ (x v)
negated_value x z v e = let s = side_minus x v in omega (arith, ints)

pub negate_sized : (o : OctagonView) (v : ℕ) → ((x : ℕ → ℤ) → Holds o x → Within (negsuc 68719476735) (pos 68719476736) (x v)) → (x : ℕ → ℤ) → AssignedOf o v (2 * v + 1) (pos 0) (pos 0) x
    → Within (negsuc 1099511627774) (pos 1099511627775) (x v)
negate_sized o v all x a =
    let w = all a.was a.point in
    let w1 = w.above in
    let w2 = w.below in
    let m1 = a.more_in.above in
    let m2 = a.more_in.below in
    let s = side_minus a.was v in
    let e = a.value in
    record { above = omega (arith, ints); below = omega (arith, ints) }

-- the side that side k becomes
record Turned (o : OctagonView) (v k n : ℕ) (x : ℕ → ℤ) : Type 0 where
  side : ℕ
  side_in : side < 2 * n
  now_is : side_value (moved x v (neg_ℤ (x v))) k ≡ side_value x side
  old_is : (y : ℕ → ℤ) (a : AssignedOf o v (2 * v + 1) (pos 0) (pos 0) y) → side_value y side ≡ side_value a.was k

turned : (o : OctagonView) (v k n : ℕ) (x : ℕ → ℤ) → v < n → k < 2 * n → Turned o v k n x
turned o v k n x hv hk = elim (which v k) [
  | plus e ↦ record {
    side = 2 * v + 1;
    side_in = omega arith;
    now_is = ap (side_value (moved x v (neg_ℤ (x v)))) e ∙ side_plus (moved x v (neg_ℤ (x v))) v ∙ moved-here x v (neg_ℤ (x v)) ∙ sym (side_minus x v);
    old_is = λ y a. let s = side_minus y v in let t = ap (side_value a.was) e ∙ side_plus a.was v in let f = a.value in let g = side_minus a.was v in let m1 = a.more_in.above in let m2 = a.more_in.below in omega (arith, ints);
  }
  | minus e ↦ record {
    side = 2 * v;
    side_in = omega arith;
    now_is = let s = ap (side_value (moved x v (neg_ℤ (x v)))) e ∙ side_minus (moved x v (neg_ℤ (x v))) v in let g = moved-here x v (neg_ℤ (x v)) in let u = side_plus x v in omega (arith, ints);
    old_is = λ y a. let s = side_plus y v in let t = ap (side_value a.was) e ∙ side_minus a.was v in let f = a.value in let g = side_minus a.was v in let m1 = a.more_in.above in let m2 = a.more_in.below in omega (arith, ints);
  }
  | other h ↦ record {
    side = k;
    side_in = hk;
    now_is = side_other (moved x v (neg_ℤ (x v))) x k (moved-there x v (neg_ℤ (x v)) (k / 2) h);
    old_is = λ y a. side_other y a.was k (a.others (k / 2) h);
  }
]

negated_by : (n : ℕ) (b : Option (List ℤ)) (q : OctagonView) (v : ℕ) → v < n → q.variables ≡ n → IsLeast q (AssignedOf (record { variables = n; bounds = b }) v (2 * v + 1) (pos 0) (pos 0))
    → (x : ℕ → ℤ) → Holds q x → view.PointOf n b (moved x v (neg_ℤ (x v)))
negated_by n None q v hv same t x p =
    let r = reach q (AssignedOf (record { variables = n; bounds = None }) v (2 * v + 1) (pos 0) (pos 0)) t x p (2 * v) (2 * v) (subst (λ (i : ℕ). 2 * v < 2 * i) (sym same) (omega arith)) (subst (λ (i : ℕ). 2 * v < 2 * i) (sym same) (omega arith)) in
    r.is.point
negated_by n (Some xs) q v hv same t x p = point_from n xs (moved x v (neg_ℤ (x v))) (record {
  within = λ k l hk hl.
      let o : OctagonView = record { variables = n; bounds = Some xs } in
      let a = turned o v k n x hv hk in
      let c = turned o v l n x hv hl in
      let r = reach q (AssignedOf o v (2 * v + 1) (pos 0) (pos 0)) t x p a.side c.side (subst (λ (i : ℕ). a.side < 2 * i) (sym same) a.side_in) (subst (λ (i : ℕ). c.side < 2 * i) (sym same) c.side_in) in
      let far = r.far in
      let m = (meets_of n xs r.is.was r.is.point).within k l hk hl in
      let e1 = a.now_is in
      let e2 = c.now_is in
      let e3 = a.old_is r.y r.is in
      let e4 = c.old_is r.y r.is in
      omega (arith, ints);
})

pub negate_exactly : (o q : OctagonView) (v : ℕ) → v < o.variables → q.variables ≡ o.variables → IsLeast q (AssignedOf o v (2 * v + 1) (pos 0) (pos 0)) → (x : ℕ → ℤ) → Holds q x ↔ AssignedOf o v (2 * v + 1) (pos 0) (pos 0) x
negate_exactly o q v hv e t x = (
  λ p. record {
    was = moved x v (neg_ℤ (x v));
    point = negated_by o.variables o.bounds q v hv e t x p;
    others = λ w h. sym (moved-there x v (neg_ℤ (x v)) w h);
    more = pos 0;
    more_in = record { above = omega (arith, ints); below = omega (arith, ints) };
    value = let s = side_minus (moved x v (neg_ℤ (x v))) v in let g = moved-here x v (neg_ℤ (x v)) in omega (arith, ints);
  },
  λ a. holds_of q (AssignedOf o v (2 * v + 1) (pos 0) (pos 0)) t x a,
)

-- ---- beside a term

plus_value : (b : Bool) (z : ℤ) → b ≡ false → forms.signed b z ≡ z
plus_value true z e = cc
plus_value false z e = refl

minus_value : (b : Bool) (z : ℤ) → b ≡ true → forms.signed b z ≡ neg_ℤ z
minus_value true z e = refl
minus_value false z e = cc

pub beside_plus : (o q : OctagonView) (v : ℕ) (t : Term) (d : Interval) → t.negative ≡ false → ((x : ℕ → ℤ) → Holds q x ↔ AssignedOf o v (2 * t.variable) d.low d.high x) → (x : ℕ → ℤ) → Holds q x ↔ Beside o v t d x
beside_plus o q v t d pl each x = (
  λ p.
      let a = (each x).0 p in
      let s = side_plus a.was t.variable in
      let g = plus_value t.negative (a.was t.variable) pl in
      let f = a.value in
      let m1 = a.more_in.above in
      let m2 = a.more_in.below in
      record { was = a.was; point = a.point; others = a.others; near = record { above = omega (arith, ints); below = omega (arith, ints) } },
  λ b.
      let s = side_plus b.was t.variable in
      let g = plus_value t.negative (b.was t.variable) pl in
      let m1 = b.near.above in
      let m2 = b.near.below in
      (each x).1 (record { was = b.was; point = b.point; others = b.others; more = x v -ℤ b.was t.variable; more_in = record { above = omega (arith, ints); below = omega (arith, ints) }; value = omega (arith, ints) }),
)

pub beside_minus : (o mid q : OctagonView) (v : ℕ) (t : Term) (d e : Interval) → t.negative ≡ true → e.low ≡ neg_ℤ d.high → e.high ≡ neg_ℤ d.low
    → ((x : ℕ → ℤ) → Holds mid x ↔ AssignedOf o v (2 * t.variable) e.low e.high x) → ((x : ℕ → ℤ) → Holds q x ↔ AssignedOf mid v (2 * v + 1) (pos 0) (pos 0) x) → (x : ℕ → ℤ) → Holds q x ↔ Beside o v t d x
beside_minus o mid q v t d e mi el eh first second x = (
  λ p.
      let b = (second x).0 p in
      let a = (first b.was).0 b.point in
      let s = side_plus a.was t.variable in
      let u = side_minus b.was v in
      let g = minus_value t.negative (a.was t.variable) mi in
      let f1 = a.value in
      let f2 = b.value in
      let m1 = a.more_in.above in
      let m2 = a.more_in.below in
      let n1 = b.more_in.above in
      let n2 = b.more_in.below in
      record { was = a.was; point = a.point; others = λ w h. b.others w h ∙ a.others w h; near = record { above = omega (arith, ints); below = omega (arith, ints) } },
  λ b.
      let y = moved x v (neg_ℤ (x v)) in
      let here = moved-here x v (neg_ℤ (x v)) in
      let s = side_plus b.was t.variable in
      let u = side_minus (moved x v (neg_ℤ (x v))) v in
      let g = minus_value t.negative (b.was t.variable) mi in
      let m1 = b.near.above in
      let m2 = b.near.below in
      (second x).1 (record {
        was = moved x v (neg_ℤ (x v));
        point = (first (moved x v (neg_ℤ (x v)))).1 (record {
          was = b.was;
          point = b.point;
          others = λ w h. moved-there x v (neg_ℤ (x v)) w h ∙ b.others w h;
          more = neg_ℤ (x v) -ℤ b.was t.variable;
          more_in = record { above = omega (arith, ints); below = omega (arith, ints) };
          value = omega (arith, ints);
        });
        others = λ w h. sym (moved-there x v (neg_ℤ (x v)) w h);
        more = pos 0;
        more_in = record { above = omega (arith, ints); below = omega (arith, ints) };
        value = omega (arith, ints);
      }),
)

-- ---- beside a term, within a range

far_apart : (r : Interval) (y z : ℤ) → IsNarrow r → Within r.low r.high y → Within (negsuc 2147483647) (pos 2147483648) z → Within (negsuc 17179869183) (pos 17179869184) (y -ℤ z)
far_apart r y z n h k =
    let a = n.low_fits.above in
    let b = n.high_fits.below in
    let c = h.above in
    let d = h.below in
    let e = k.above in
    let f = k.below in
    record { above = omega (arith, ints); below = omega (arith, ints) }

module _ (o : OctagonView) (v : ℕ) (t : Term) (d r far : Interval) (hv : v < o.variables) (ht : t.variable < o.variables) (narrow : IsNarrow r) (words : IsNarrowly o)
    (low : far.low ≡ negsuc 17179869183) (high : far.high ≡ pos 17179869184) where
  in_far : (x : ℕ → ℤ) (f : Follows o v t d r x) → InBoth d far (x v -ℤ term_value f.was t)
  in_far x f =
      let w = far_apart r (x v) (term_value f.was t) narrow f.value (term_small o t f.was ht words f.point) in
      (record { above = f.near.above; below = f.near.below }, record { above = subst (λ (y : ℤ). y ≤ℤ (x v -ℤ term_value f.was t)) (sym low) w.above; below = subst (λ (y : ℤ). (x v -ℤ term_value f.was t) ≤ℤ y) (sym high) w.below })

  pub follow_none : (q : OctagonView) → ((z : ℤ) → InBoth d far z → ⊥) → ((x : ℕ → ℤ) → Holds q x → ⊥) → (x : ℕ → ℤ) → Holds q x ↔ Follows o v t d r x
  follow_none q none bare x = (λ p. absurd (bare x p), λ f. absurd (none (x v -ℤ term_value f.was t) (in_far x f)))

  pub follow_some : (mid q : OctagonView) (near : Interval) → ((z : ℤ) → interval.Holds near z ↔ InBoth d far z) → mid.variables ≡ o.variables → q.variables ≡ mid.variables
      → ((x : ℕ → ℤ) → Holds mid x ↔ Beside o v t near x) → IsLeast q (WithRange mid v r.low r.high) → (x : ℕ → ℤ) → Holds q x ↔ Follows o v t d r x
  follow_some mid q near each e f first least x =
      let second = cut_exactly mid q v r.low r.high (subst (λ (k : ℕ). v < k) (sym e) hv) f least x in (
        λ p.
            let s = second.0 p in
            let b = (first x).0 s.point in
            record { was = b.was; point = b.point; others = b.others; value = s.inside; near = ((each (x v -ℤ term_value b.was t)).0 b.near).0 },
        λ w.
            second.1 (record { point = (first x).1 (record { was = w.was; point = w.point; others = w.others; near = (each (x v -ℤ term_value w.was t)).1 (in_far x w) }); inside = w.value }),
      )

-- ---- the negatives of some numbers, and what is left of 32 bits

pub zero_less_low : (o d e : Interval) → o.low ≡ pos 0 → e.low ≡ o.low -ℤ d.high → e.low ≡ neg_ℤ d.high
zero_less_low o d e g f = omega (arith, ints)

pub zero_less_high : (o d e : Interval) → o.high ≡ pos 0 → e.high ≡ o.high -ℤ d.low → e.high ≡ neg_ℤ d.low
zero_less_high o d e g f = omega (arith, ints)

in_word : (r : Interval) (z : ℤ) → IsNarrow r → Within r.low r.high z → IsWord32 z
in_word r z n w = let a = n.low_fits.above in let b = n.high_fits.below in let c = w.above in let d = w.below in record { above = omega (arith, ints); below = omega (arith, ints) }

pub follow_narrow : (o q : OctagonView) (v : ℕ) (t : Term) (d r : Interval) → q.variables ≡ o.variables → ((x : ℕ → ℤ) → Holds q x ↔ Follows o v t d r x) → IsNarrow r → IsNarrowly o → IsNarrowly q
follow_narrow o q v t d r e each i n = record {
  words = λ x p u hu.
      let f = (each x).0 p in
      elim (cases_eq u v) [
        | inl here ↦ subst (λ (k : ℕ). IsWord32 (x k)) (sym here) (in_word r (x v) i f.value)
        | inr there ↦ subst IsWord32 (sym (f.others u there)) (n.words f.was f.point u (subst (λ (k : ℕ). u < k) e hu))
      ];
}

pub none_narrow : (q : OctagonView) → ((x : ℕ → ℤ) → Holds q x → ⊥) → IsNarrowly q
none_narrow q none = record { words = λ x p v hv. absurd (none x p) }
