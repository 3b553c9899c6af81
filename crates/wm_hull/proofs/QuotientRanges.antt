-- The ranges of quotients over boxes, and whether a pair of the boxes is outside the domain.
use Rattle.std.proofs.Common.{◌≡◌, ◌⊎◌, ⊎_elim, refl, sym, subst, ◌∙◌, ℤ, pos, ◌≤ℤ◌, ◌<ℤ◌, Bool, true, false, not, ◌||◌, IsTrue, true≢false, arith}
use Rattle.std.proofs.lemmas.Int.{ints, clamps}
use Rattle.std.specs.Int.{int_max}
use Rattle.wm_numbers.proofs.Order.{le_refl, le_trans, le_of_eq, low_within, high_within}
use Rattle.wm_interval.specs.Holds.{Holds, IsHullOf}
use Rattle.wm_interval.specs.declared.Interval.{Interval}
use Rattle.wm_ops.specs.Division.{is_quotient, quotient}
use Rattle.wm_ops.specs.Outcomes.{in_domain, value_of, formula_of, fails_of}
use Rattle.wm_ops.specs.declared.operators.Op.TheVariants.{DivS}
use Rattle.wm_hull.specs.Boxes.{InBoxes}
use Rattle.wm_hull.specs.Failures.{Somewhere, Nowhere}
use Rattle.wm_hull.specs.Ranges.{Result}
use Rattle.wm_hull.proofs.Dividing.{InDomain, domain_in, domain_out, quotient_equal, quotient_most, quotient_rises}

in_out : (a b : ℤ) → IsTrue (in_domain DivS a b) → InDomain a b
unfolding in_domain
in_out a b h = domain_out a b h

in_in : (a b : ℤ) → InDomain a b → IsTrue (in_domain DivS a b)
unfolding in_domain
in_in a b h = domain_in a b h

gives : (a b c v : ℤ) → quotient a b ≡ v → value_of DivS a b c ≡ v
unfolding formula_of
gives a b c v e = e

gives_back : (a b c v : ℤ) → value_of DivS a b c ≡ v → quotient a b ≡ v
unfolding formula_of
gives_back a b c v e = e

module _ (x y z : Interval) where
  pair : (a b v : ℤ) → Holds x a → Holds y b → InDomain a b → quotient a b ≡ v → Result DivS x y z v
  pair a b v p q d e = record { a = a; b = b; c = z.low; inside = record { first = p; second = q; third = low_within z.ordered }; domain = in_in a b d; gives = gives a b z.low v e }

  pub no_pair : (least : ℤ) → least ≡ int_max x.low (pos 0) → ((x.high <ℤ pos 0) ⊎ ((y.high <ℤ pos 1) ⊎ (y.high <ℤ least))) → (a b c : ℤ) → InBoxes x y z a b c → ¬ (IsTrue (in_domain DivS a b))
  no_pair least l h a b c inside t =
      let d = in_out a b t in
      let n = d.natural in
      let p = d.proper in
      let q = d.positive in
      let from = inside.first.above in
      let to = inside.first.below in
      let top = inside.second.below in
      ⊎_elim (λ k. omega (arith, ints)) (λ k. ⊎_elim (λ m. omega (arith, ints)) (λ m. let up : least ≤ℤ a = omega (arith, ints, clamps) in omega (arith, ints)) k) h

  module _ (least divisor : ℤ) (l : least ≡ int_max x.low (pos 0)) (m : divisor ≡ int_max y.low (pos 1)) (natural : pos 0 ≤ℤ x.high) (positive : pos 1 ≤ℤ y.high) (meets : least ≤ℤ y.high) where
    least_in : Holds x least
    least_in = let o = x.ordered in record { above = omega (arith, ints, clamps); below = omega (arith, ints, clamps) }

    divisor_in : Holds y divisor
    divisor_in = let o = y.ordered in record { above = omega (arith, ints, clamps); below = omega (arith, ints, clamps) }

    least_pair : InDomain least y.high
    least_pair = record { natural = omega (arith, ints, clamps); proper = meets; positive = positive }

    bottom : Result DivS x y z (quotient least y.high)
    bottom = pair least y.high _ least_in (high_within y.ordered) least_pair refl

    -- the least dividend of the domain by the greatest divisor gives the least
    from_bottom : (v : ℤ) → Result DivS x y z v → quotient least y.high ≤ℤ v
    from_bottom v r =
        let d = in_out r.a r.b r.domain in
        let n = d.natural in
        let from = r.inside.first.above in
        le_trans (quotient_rises least y.high r.a r.b least_pair d (omega (arith, ints, clamps)) r.inside.second.below) (le_of_eq (gives_back r.a r.b r.c v r.gives))

    -- a number in both boxes gives the greatest fraction
    pub hull_meeting : (range : Interval) → divisor ≤ℤ x.high → range.low ≡ quotient least y.high → range.high ≡ pos 32767 → IsHullOf (Result DivS x y z) range
    hull_meeting range h low high =
        let both = int_max least divisor in
        let lo = x.ordered in
        let yo = y.ordered in
        let p : Holds x both = record { above = omega (arith, ints, clamps); below = omega (arith, ints, clamps) } in
        let q : Holds y both = record { above = omega (arith, ints, clamps); below = omega (arith, ints, clamps) } in
        let d : InDomain both both = record { natural = omega (arith, ints, clamps); proper = le_refl both; positive = omega (arith, ints, clamps) } in
        record {
          low_is = record { attained = subst (Result DivS x y z) (sym low) bottom; least = λ v r. le_trans (le_of_eq low) (from_bottom v r) };
          high_is = record {
            attained = pair both both _ p q d (quotient_equal both ∙ sym high);
            greatest = λ v r. le_trans (le_of_eq (sym (gives_back r.a r.b r.c v r.gives))) (le_trans (quotient_most r.a r.b (in_out r.a r.b r.domain)) (le_of_eq (sym high)));
          };
        }

    -- else the greatest dividend by the least divisor
    pub hull_apart : (range : Interval) → x.high <ℤ divisor → range.low ≡ quotient least y.high → range.high ≡ quotient x.high divisor → IsHullOf (Result DivS x y z) range
    hull_apart range h low high =
        let d : InDomain x.high divisor = record { natural = natural; proper = omega (arith, ints); positive = omega (arith, ints, clamps) } in
        record {
          low_is = record { attained = subst (Result DivS x y z) (sym low) bottom; least = λ v r. le_trans (le_of_eq low) (from_bottom v r) };
          high_is = record {
            attained = pair x.high divisor _ (high_within x.ordered) divisor_in d (sym high);
            greatest = λ v r.
                let e = in_out r.a r.b r.domain in
                let p = e.positive in
                let from = r.inside.second.above in
                le_trans (le_of_eq (sym (gives_back r.a r.b r.c v r.gives)))
                (le_trans (quotient_rises r.a r.b x.high divisor e d r.inside.first.below (omega (arith, ints, clamps))) (le_of_eq (sym high)));
          };
        }

-- ---- outside the domain
failing : (a b c : ℤ) → ¬ (InDomain a b) → IsTrue (fails_of DivS a b c)
unfolding in_domain formula_of
failing a b c n = by (is_quotient a b) refl
  where
    by : (t : Bool) → is_quotient a b ≡ t → not t || false ≡ true
    by true e = absurd (n (domain_out a b e))
    by false e = refl

passing : (a b c : ℤ) → InDomain a b → ¬ (IsTrue (fails_of DivS a b c))
unfolding in_domain formula_of
passing a b c d t = true≢false (sym t ∙ by (is_quotient a b) (domain_in a b d))
  where
    by : (t : Bool) → t ≡ true → not t || false ≡ false
    by true e = refl
    by false e = absurd (true≢false (sym e))

module _ (x y z : Interval) where
  outside_at : (a b : ℤ) → Holds x a → Holds y b → ¬ (InDomain a b) → Somewhere (fails_of DivS) x y z
  outside_at a b p q n = record { a = a; b = b; c = z.low; inside = record { first = p; second = q; third = low_within z.ordered }; holds = failing a b z.low n }

  pub outside_somewhere : ((x.low <ℤ pos 0) ⊎ ((y.low ≤ℤ pos 0) ⊎ (y.low <ℤ x.high))) → Somewhere (fails_of DivS) x y z
  outside_somewhere h = ⊎_elim
      (λ k. outside_at x.low y.low (low_within x.ordered) (low_within y.ordered) (λ d. let n = d.natural in omega (arith, ints)))
      (λ k. ⊎_elim
      (λ m. outside_at x.low y.low (low_within x.ordered) (low_within y.ordered) (λ d. let n = d.positive in omega (arith, ints)))
      (λ m. outside_at x.high y.low (high_within x.ordered) (low_within y.ordered) (λ d. let n = d.proper in omega (arith, ints))) k) h

  pub outside_nowhere : pos 0 ≤ℤ x.low → pos 1 ≤ℤ y.low → x.high ≤ℤ y.low → Nowhere (fails_of DivS) x y z
  outside_nowhere h k m a b c inside = passing a b c (record {
    natural = le_trans h inside.first.above;
    proper = le_trans inside.first.below (le_trans m inside.second.above);
    positive = le_trans k inside.second.above;
  })
