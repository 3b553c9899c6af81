-- For implementations: two terms of which the second is tied to no other variable. Their sum is kept between two ends by
-- cutting the first to what the range of the second leaves, and then the second to what the range of the first leaves: that
-- is the least state.
use Rattle.std.proofs.Common.{◌≡◌, ◌≢◌, inl, inr, ℕ, ℤ, pos, ◌≤ℤ◌, ◌+ℤ◌, ◌-ℤ◌, [], ◌∷◌, refl, sym, ◌∙◌, subst, arith}
use Rattle.std.proofs.lemmas.Int.{ints, clamps}
use Rattle.std.proofs.lemmas.Bool.{cases_eq}
use Rattle.std.specs.Int.{int_max, int_min}
use Rattle.wm_numbers.specs.Within.{Within}
use Rattle.wm_interval.specs.declared.Interval.{Interval}
use Rattle.wm_interval.specs.Holds.{Holds, IsHullOf}
use Rattle.wm_domain.specs.declared.form.Term.{Term}
use Rattle.wm_domain.specs.Points.{Point, SameBut}
use Rattle.wm_domain.specs.Forms.{signed, term_value}
use Rattle.wm_domain.specs.Changes.{Freed}
use Rattle.wm_domain.specs.Terms.{IsTermValue, Ranged, SumIn, NearTerm}
use Rattle.wm_domain.proofs.Moving.{with_value-but, with_term, with_term-value, term-but, but-but, same_but_all}
use Rattle.wm_domain.proofs.Placing.{Placing, placed_term}

-- ---- plain numbers

-- z lies from l to k, and its sum with t from low to high
record Fit (l k low high t z : ℤ) : Type 0 where
  above : l ≤ℤ z
  below : z ≤ℤ k
  sum_above : low ≤ℤ (t +ℤ z)
  sum_below : (t +ℤ z) ≤ℤ high

lesser_fit : (l k low high t : ℤ) → l ≤ℤ k → low ≤ℤ high → (low -ℤ k) ≤ℤ t → t ≤ℤ (high -ℤ l) → Fit l k low high t (int_max l (low -ℤ t))
lesser_fit l k low high t h1 h2 h3 h4 = record {
  above = omega (arith, ints, clamps);
  below = omega (arith, ints, clamps);
  sum_above = omega (arith, ints, clamps);
  sum_below = omega (arith, ints, clamps);
}

greater_fit : (l k low high t : ℤ) → l ≤ℤ k → low ≤ℤ high → (low -ℤ k) ≤ℤ t → t ≤ℤ (high -ℤ l) → Fit l k low high t (int_min k (high -ℤ t))
greater_fit l k low high t h1 h2 h3 h4 = record {
  above = omega (arith, ints, clamps);
  below = omega (arith, ints, clamps);
  sum_above = omega (arith, ints, clamps);
  sum_below = omega (arith, ints, clamps);
}

sum_low : (low a b x y : ℤ) → x ≡ a → y ≡ b → low ≤ℤ (a +ℤ b) → low ≤ℤ (x +ℤ (y +ℤ pos 0))
sum_low low a b x y e f h = omega (arith, ints)

sum_high : (high a b x y : ℤ) → x ≡ a → y ≡ b → (a +ℤ b) ≤ℤ high → (x +ℤ (y +ℤ pos 0)) ≤ℤ high
sum_high high a b x y e f h = omega (arith, ints)

down_le : (l low m t b : ℤ) → t ≡ m → l ≤ℤ b → (low -ℤ m) ≤ℤ b → int_max l (low -ℤ t) ≤ℤ b
down_le l low m t b e h1 h2 = omega (arith, ints, clamps)

up_le : (k high m t b : ℤ) → t ≡ m → b ≤ℤ k → b ≤ℤ (high -ℤ m) → b ≤ℤ int_min k (high -ℤ t)
up_le k high m t b e h1 h2 = omega (arith, ints, clamps)

near_sum : (l k low high a b : ℤ) → l ≤ℤ b → b ≤ℤ k → low ≤ℤ (a +ℤ (b +ℤ pos 0)) → (a +ℤ (b +ℤ pos 0)) ≤ℤ high → ((low -ℤ k) ≤ℤ a) × (a ≤ℤ (high -ℤ l))
near_sum l k low high a b h1 h2 h3 h4 = (omega (arith, ints), omega (arith, ints))

near_sum_right : (l k low high a b : ℤ) → l ≤ℤ a → a ≤ℤ k → low ≤ℤ (a +ℤ (b +ℤ pos 0)) → (a +ℤ (b +ℤ pos 0)) ≤ℤ high → ((low -ℤ k) ≤ℤ b) × (b ≤ℤ (high -ℤ l))
near_sum_right l k low high a b h1 h2 h3 h4 = (omega (arith, ints), omega (arith, ints))

pub le_through : {x y z : ℤ} → x ≤ℤ y → y ≤ℤ z → x ≤ℤ z
le_through h k = omega (arith, ints)

pub same_low : (x y z : ℤ) → x ≡ y → y ≤ℤ z → x ≤ℤ z
same_low x y z e h = omega (arith, ints)

pub same_high : (x y z : ℤ) → x ≡ y → z ≤ℤ y → z ≤ℤ x
same_high x y z e h = omega (arith, ints)

-- ---- a sum between two ends

-- what is known of the ranges of both terms and of the states between
pub record Cuts (Has First Second : Point → Type 0) (a b : Term) (low high : ℤ) (ra rb : Interval) : Type 0 where
  pub apart : a.variable ≢ b.variable
  pub order : low ≤ℤ high
  pub b_range : IsHullOf (IsTermValue Has b) rb
  pub first : (p : Point) → First p → Ranged Has a (low -ℤ rb.high) (high -ℤ rb.low) p
  pub first_back : (p : Point) → Ranged Has a (low -ℤ rb.high) (high -ℤ rb.low) p → First p
  pub a_range : IsHullOf (IsTermValue First a) ra
  pub second : (p : Point) → Second p → Ranged First b (low -ℤ ra.high) (high -ℤ ra.low) p
  pub second_back : (p : Point) → Ranged First b (low -ℤ ra.high) (high -ℤ ra.low) p → Second p

module _ (Has First Second : Point → Type 0) (a b : Term) (low high : ℤ) (ra rb : Interval) (c : Cuts Has First Second a b low high ra rb) where
  b_low : (p : Point) → Has p → rb.low ≤ℤ term_value p.values b
  b_low p h = c.b_range.low_is.least (term_value p.values b) (record { x = p; is = h; gives = refl })

  b_high : (p : Point) → Has p → term_value p.values b ≤ℤ rb.high
  b_high p h = c.b_range.high_is.greatest (term_value p.values b) (record { x = p; is = h; gives = refl })

  a_low : (p : Point) → First p → ra.low ≤ℤ term_value p.values a
  a_low p h = c.a_range.low_is.least (term_value p.values a) (record { x = p; is = h; gives = refl })

  a_high : (p : Point) → First p → term_value p.values a ≤ℤ ra.high
  a_high p h = c.a_range.high_is.greatest (term_value p.values a) (record { x = p; is = h; gives = refl })

  -- a point whose sum lies between the ends is kept
  pub sum_kept : (p : Point) → SumIn Has (a ∷ b ∷ []) low high p → Second p
  sum_kept p s =
      let n = near_sum rb.low rb.high low high (term_value p.values a) (term_value p.values b) (b_low p s.point) (b_high p s.point) s.above s.below in
      let f : First p = c.first_back p (record { point = s.point; above = n.0; below = n.1 }) in
      let m = near_sum_right ra.low ra.high low high (term_value p.values a) (term_value p.values b) (a_low p f) (a_high p f) s.above s.below in
      c.second_back p (record { point = f; above = m.0; below = m.1 })

  module _ (law : Placing Has b.variable) where
    -- a point of the state with another value of b, with which the sum lies between the ends
    sum_at : (p : Point) (z : ℤ) → Has p → Fit rb.low rb.high low high (term_value p.values a) z → SumIn Has (a ∷ b ∷ []) low high (with_term p b z)
    sum_at p z h f =
        let x = c.b_range.low_is.attained in
        let y = c.b_range.high_is.attained in
        let e = with_term-value p b z in
        let g = term-but b.variable p (with_term p b z) a (with_value-but p b.variable (signed b.negative z)) c.apart in
        record {
          point = placed_term Has b law p x.x y.x (with_term p b z) h x.is y.is (with_value-but p b.variable (signed b.negative z))
              (subst (λ (k : ℤ). term_value x.x.values b ≤ℤ k) (sym e) (same_low _ _ _ x.gives f.above))
              (subst (λ (k : ℤ). k ≤ℤ term_value y.x.values b) (sym e) (same_high _ _ _ y.gives f.below));
          above = sum_low low (term_value p.values a) z _ _ g e f.sum_above;
          below = sum_high high (term_value p.values a) z _ _ g e f.sum_below;
        }

    -- a state that holds all these points holds each point that is left
    pub sum_least : (Other : Point → Type 0) → Placing Other b.variable → ((p : Point) → SumIn Has (a ∷ b ∷ []) low high p → Other p) → (p : Point) → Second p → Other p
    sum_least Other there all p s =
        let two = c.second p s in
        let one = c.first p two.point in
        let least = c.a_range.low_is.attained in
        let most = c.a_range.high_is.attained in
        let at_least = c.first least.x least.is in
        let at_most = c.first most.x most.is in
        let order = le_through (b_low p one.point) (b_high p one.point) in
        let base = lesser_fit rb.low rb.high low high (term_value p.values a) order c.order one.above one.below in
        let down = lesser_fit rb.low rb.high low high (term_value most.x.values a) order c.order at_most.above at_most.below in
        let up = greater_fit rb.low rb.high low high (term_value least.x.values a) order c.order at_least.above at_least.below in
        placed_term Other b there _ _ _ p
        (all _ (sum_at p _ one.point base)) (all _ (sum_at most.x _ at_most.point down)) (all _ (sum_at least.x _ at_least.point up))
        (but-but b.variable p (with_term p b (int_max rb.low (low -ℤ term_value p.values a))) p (with_value-but p b.variable (signed b.negative (int_max rb.low (low -ℤ term_value p.values a)))) (same_but_all b.variable p))
        (same_low _ _ _ (with_term-value most.x b _) (down_le rb.low low ra.high _ _ most.gives (b_low p one.point) two.above))
        (same_high _ _ _ (with_term-value least.x b _) (up_le rb.high high ra.low _ _ least.gives (b_high p one.point) two.below))
