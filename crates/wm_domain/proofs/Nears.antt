-- For implementations: a variable gets a number of a range near a term, where the variable or the term's is tied to no other.
-- The term is cut to what the range leaves, and the variable gets what the term's range and the given one leave: that is the
-- least state.
use Rattle.std.proofs.Common.{◌≡◌, ◌≢◌, inl, inr, ℕ, ℤ, pos, ◌≤ℤ◌, ◌+ℤ◌, ◌-ℤ◌, [], ◌∷◌, refl, sym, ◌∙◌, subst, arith}
use Rattle.std.proofs.lemmas.Int.{ints, clamps}
use Rattle.std.proofs.lemmas.Bool.{cases_eq}
use Rattle.std.specs.Int.{int_max, int_min}
use Rattle.wm_numbers.specs.Within.{Within}
use Rattle.wm_numbers.proofs.Order.{le_of_eq}
use Rattle.wm_interval.specs.declared.Interval.{Interval}
use Rattle.wm_interval.specs.Holds.{Holds, IsHullOf}
use Rattle.wm_domain.specs.declared.form.Term.{Term}
use Rattle.wm_domain.specs.Points.{Point, SameBut}
use Rattle.wm_domain.specs.Forms.{signed, term_value}
use Rattle.wm_domain.specs.Changes.{Freed}
use Rattle.wm_domain.specs.Terms.{IsTermValue, Ranged, SumIn, NearTerm}
use Rattle.wm_domain.proofs.Moving.{with_value, with_value-but, moved-here, moved-there, with_term, with_term-value, term-but, but-but}
use Rattle.wm_domain.proofs.Placing.{Placing, placed_term}
use Rattle.wm_domain.proofs.Sums.{same_low, same_high, le_through}

-- ---- a number near a term

-- numbers of two ranges, and of their sums
record NearFit (l k dl dk t z : ℤ) : Type 0 where
  above : l ≤ℤ z
  below : z ≤ℤ k
  near_above : dl ≤ℤ (z -ℤ t)
  near_below : (z -ℤ t) ≤ℤ dk

lesser_near : (l k dl dk t : ℤ) → l ≤ℤ k → dl ≤ℤ dk → (l -ℤ dk) ≤ℤ t → t ≤ℤ (k -ℤ dl) → NearFit l k dl dk t (int_max l (t +ℤ dl))
lesser_near l k dl dk t h1 h2 h3 h4 = record {
  above = omega (arith, ints, clamps);
  below = omega (arith, ints, clamps);
  near_above = omega (arith, ints, clamps);
  near_below = omega (arith, ints, clamps);
}

greater_near : (l k dl dk t : ℤ) → l ≤ℤ k → dl ≤ℤ dk → (l -ℤ dk) ≤ℤ t → t ≤ℤ (k -ℤ dl) → NearFit l k dl dk t (int_min k (t +ℤ dk))
greater_near l k dl dk t h1 h2 h3 h4 = record {
  above = omega (arith, ints, clamps);
  below = omega (arith, ints, clamps);
  near_above = omega (arith, ints, clamps);
  near_below = omega (arith, ints, clamps);
}

lower_end : (l m t dl z : ℤ) → t ≡ m → l ≤ℤ z → (m +ℤ dl) ≤ℤ z → int_max l (t +ℤ dl) ≤ℤ z
lower_end l m t dl z e h k = omega (arith, ints, clamps)

upper_end : (k m t dk z : ℤ) → t ≡ m → z ≤ℤ k → z ≤ℤ (m +ℤ dk) → z ≤ℤ int_min k (t +ℤ dk)
upper_end k m t dk z e h j = omega (arith, ints, clamps)

near_bounds : (l k dl dk t z : ℤ) → l ≤ℤ z → z ≤ℤ k → dl ≤ℤ (z -ℤ t) → (z -ℤ t) ≤ℤ dk → ((l -ℤ dk) ≤ℤ t) × (t ≤ℤ (k -ℤ dl))
near_bounds l k dl dk t z h1 h2 h3 h4 = (omega (arith, ints), omega (arith, ints))

near_sums : (m n dl dk t z : ℤ) → m ≤ℤ t → t ≤ℤ n → dl ≤ℤ (z -ℤ t) → (z -ℤ t) ≤ℤ dk → ((m +ℤ dl) ≤ℤ z) × (z ≤ℤ (n +ℤ dk))
near_sums m n dl dk t z h1 h2 h3 h4 = (omega (arith, ints), omega (arith, ints))

-- a value of the term near z, in the term's range
record TermFit (m n dl dk z y : ℤ) : Type 0 where
  above : m ≤ℤ y
  below : y ≤ℤ n
  near_above : dl ≤ℤ (z -ℤ y)
  near_below : (z -ℤ y) ≤ℤ dk

term_fit : (m n dl dk z : ℤ) → m ≤ℤ n → dl ≤ℤ dk → (m +ℤ dl) ≤ℤ z → z ≤ℤ (n +ℤ dk) → TermFit m n dl dk z (int_max m (z -ℤ dk))
term_fit m n dl dk z h1 h2 h3 h4 = record {
  above = omega (arith, ints, clamps);
  below = omega (arith, ints, clamps);
  near_above = omega (arith, ints, clamps);
  near_below = omega (arith, ints, clamps);
}

-- what is known of the state between, of the range of the term there, and of the points that are left: those of the state
-- between with a number of r at v that is a sum of a number of the range and one of d
pub record NearCuts (Has First : Point → Type 0) (w : Term) (d r rw now : Interval) : Type 0 where
  pub first : (p : Point) → First p → Ranged Has w (r.low -ℤ d.high) (r.high -ℤ d.low) p
  pub first_back : (p : Point) → Ranged Has w (r.low -ℤ d.high) (r.high -ℤ d.low) p → First p
  pub w_range : IsHullOf (IsTermValue First w) rw
  pub now_is : (z : ℤ) → Holds now z → Holds r z × Within (rw.low +ℤ d.low) (rw.high +ℤ d.high) z
  pub now_back : (z : ℤ) → Holds r z → Within (rw.low +ℤ d.low) (rw.high +ℤ d.high) z → Holds now z

module _ (Has First : Point → Type 0) (v : ℕ) (w : Term) (d r rw now : Interval) (c : NearCuts Has First w d r rw now) where
  -- a point near a term comes from one of the state between, and its number is one of those left
  pub near_kept : (p : Point) → NearTerm Has v w d r p → Freed First v now p
  near_kept p n =
      let b = near_bounds r.low r.high d.low d.high (term_value n.was.values w) (p.values v) n.value.above n.value.below n.near.above n.near.below in
      let f : First n.was = c.first_back n.was (record { point = n.point; above = b.0; below = b.1 }) in
      let l = c.w_range.low_is.least (term_value n.was.values w) (record { x = n.was; is = f; gives = refl }) in
      let h = c.w_range.high_is.greatest (term_value n.was.values w) (record { x = n.was; is = f; gives = refl }) in
      let s = near_sums rw.low rw.high d.low d.high (term_value n.was.values w) (p.values v) l h n.near.above n.near.below in
      record { was = n.was; point = f; others = n.others; value = c.now_back (p.values v) n.value (record { above = s.0; below = s.1 }) }

  -- a point of the state between with a fitting number at v
  near_at : (q : Point) (z : ℤ) → First q → NearFit r.low r.high d.low d.high (term_value q.values w) z → NearTerm Has v w d r (with_value q v z)
  near_at q z h f =
      let e = moved-here q.values v z in
      record {
        was = q;
        point = (c.first q h).point;
        others = with_value-but q v z;
        value = subst (λ (k : ℤ). Holds r k) (sym e) (record { above = f.above; below = f.below });
        near = subst (λ (k : ℤ). Holds d (k -ℤ term_value q.values w)) (sym e) (record { above = f.near_above; below = f.near_below });
      }

  -- where v is apart, a state that holds all these points holds each that is left
  pub near_least : (Other : Point → Type 0) → Placing Other v → ((p : Point) → NearTerm Has v w d r p → Other p) → (p : Point) → Freed First v now p → Other p
  near_least Other there all p s =
      let one = c.first s.was s.point in
      let i = c.now_is (p.values v) s.value in
      let least = c.w_range.low_is.attained in
      let most = c.w_range.high_is.attained in
      let at_least = c.first least.x least.is in
      let at_most = c.first most.x most.is in
      let own = lesser_near r.low r.high d.low d.high (term_value s.was.values w) r.ordered d.ordered one.above one.below in
      let down = lesser_near r.low r.high d.low d.high (term_value least.x.values w) r.ordered d.ordered at_least.above at_least.below in
      let up = greater_near r.low r.high d.low d.high (term_value most.x.values w) r.ordered d.ordered at_most.above at_most.below in
      there.placed _ _ _ p
      (all _ (near_at s.was _ s.point own)) (all _ (near_at least.x _ least.is down)) (all _ (near_at most.x _ most.is up))
      (but-but v s.was (with_value s.was v (int_max r.low (term_value s.was.values w +ℤ d.low))) p (with_value-but s.was v (int_max r.low (term_value s.was.values w +ℤ d.low))) s.others)
      (same_low _ _ _ (moved-here least.x.values v _) (lower_end r.low rw.low _ d.low _ least.gives i.0.above i.1.above))
      (same_high _ _ _ (moved-here most.x.values v _) (upper_end r.high rw.high _ d.high _ most.gives i.0.below i.1.below))

  -- where the term's variable is apart, in the state between too: the same
  module _ (apart : w.variable ≢ v) (law : Placing First w.variable) where
    at_term : (q : Point) (z : ℤ) → First q → (rw.low +ℤ d.low) ≤ℤ z → z ≤ℤ (rw.high +ℤ d.high) → First (with_term q w (int_max rw.low (z -ℤ d.high)))
    at_term q z h l k =
        let least = c.w_range.low_is.attained in
        let most = c.w_range.high_is.attained in
        let e = with_term-value q w (int_max rw.low (z -ℤ d.high)) in
        let n = term_fit rw.low rw.high d.low d.high z rw.ordered d.ordered l k in
        placed_term First w law q least.x most.x (with_term q w (int_max rw.low (z -ℤ d.high))) h least.is most.is (with_value-but q w.variable (signed w.negative (int_max rw.low (z -ℤ d.high))))
        (subst (λ (y : ℤ). term_value least.x.values w ≤ℤ y) (sym e) (same_low _ _ _ least.gives n.above))
        (subst (λ (y : ℤ). y ≤ℤ term_value most.x.values w) (sym e) (same_high _ _ _ most.gives n.below))

    with_both : (q : Point) (z : ℤ) → First q → Holds r z → Within (rw.low +ℤ d.low) (rw.high +ℤ d.high) z → NearTerm Has v w d r (with_value (with_term q w (int_max rw.low (z -ℤ d.high))) v z)
    with_both q z h i s =
        let q2 = with_term q w (int_max rw.low (z -ℤ d.high)) in
        let e = moved-here q2.values v z in
        let f = with_term-value q w (int_max rw.low (z -ℤ d.high)) in
        let n = term_fit rw.low rw.high d.low d.high z rw.ordered d.ordered s.above s.below in
        record {
          was = q2;
          point = (c.first q2 (at_term q z h s.above s.below)).point;
          others = with_value-but q2 v z;
          value = subst (λ (k : ℤ). Holds r k) (sym e) i;
          near = subst (λ (k : ℤ). Holds d (k -ℤ term_value q2.values w)) (sym e) (subst (λ (k : ℤ). Holds d (z -ℤ k)) (sym f) (record { above = n.near_above; below = n.near_below }));
        }

    same_but_term : (q p : Point) (y z : ℤ) → SameBut v q p → p.values v ≡ z → SameBut w.variable (with_value (with_term q w y) v z) p
    same_but_term q p y z s e = record {
      numbers = λ u ne. elim (cases_eq u v) [
        | inl here ↦ subst (λ (k : ℕ). p.values k ≡ (with_value (with_term q w y) v z).values k) (sym here) (e ∙ sym (moved-here (with_term q w y).values v z))
        | inr there ↦ s.numbers u there ∙ sym (moved-there q.values w.variable (signed w.negative y) u ne) ∙ sym (moved-there (with_term q w y).values v z u there)
      ];
      cells = s.cells;
    }

    pub near_least_term : (Other : Point → Type 0) → Placing Other w.variable → ((p : Point) → NearTerm Has v w d r p → Other p) → (p : Point) → Freed First v now p → Other p
    near_least_term Other there all p s =
        let one = c.first s.was s.point in
        let i = c.now_is (p.values v) s.value in
        let own_fit = lesser_near r.low r.high d.low d.high (term_value s.was.values w) r.ordered d.ordered one.above one.below in
        let z = int_max r.low (term_value s.was.values w +ℤ d.low) in
        let own = all (with_value s.was v z) (near_at s.was z s.point own_fit) in
        let base = all _ (with_both s.was (p.values v) s.point i.0 i.1) in
        let e = term-but v s.was (with_value s.was v z) w (with_value-but s.was v z) apart in
        let f = term-but v s.was p w s.others apart in
        placed_term Other w there _ (with_value s.was v z) (with_value s.was v z) p base own own (same_but_term s.was p (int_max rw.low (p.values v -ℤ d.high)) (p.values v) s.others refl)
        (le_of_eq (e ∙ sym f)) (le_of_eq (f ∙ sym e))
