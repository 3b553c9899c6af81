-- The ranges of norms over boxes on either side of 0, and across it.
use Rattle.std.proofs.Common.{◌≡◌, ⊎_elim, refl, sym, ap, subst, ◌∙◌, IsTrue, ℕ, zero, suc, ◌≤◌, ℤ, pos, negsuc, ◌≤ℤ◌, arith}
use Rattle.std.proofs.lemmas.Int.{ints}
use Rattle.wm_numbers.proofs.Order.{le_trans, le_of_eq, le_antisym, low_within, high_within}
use Rattle.wm_interval.specs.Holds.{Holds}
use Rattle.wm_interval.specs.declared.Interval.{Interval}
use Rattle.wm_numbers.specs.Within.{IsWord16, IsWord32}
use Rattle.wm_ops.specs.Arguments.{ArgsFit}
use Rattle.wm_ops.specs.Norms.{norm_in}
use Rattle.wm_ops.specs.Outcomes.{value_of, formula_of, in_domain}
use Rattle.wm_ops.specs.declared.operators.Op.{Op}
use Rattle.wm_hull.specs.Ranges.{Reached, IsRangeOf, IsNorm}
use Rattle.wm_hull.proofs.Norming.{norm_falls, norm_rises, norm_most}
use Rattle.wm_hull.proofs.Spans.{range_by}

lifted : (m n : ℕ) → m ≤ n → pos m ≤ℤ pos n
lifted m n h = omega (arith, ints)

module _ (places : ℕ) (x y z result : Interval) where
  at : (a : ℤ) (v : ℤ) → Holds x a → v ≡ pos (norm_in places a) → Reached (λ a b c. pos (norm_in places a)) x y z v
  at a v w e = record { a = a; b = y.low; c = z.low; inside = record { first = w; second = low_within y.ordered; third = low_within z.ordered }; gives = sym e }

  pub norms_below : x.high ≤ℤ negsuc 0 → result.low ≡ pos (norm_in places x.low) → result.high ≡ pos (norm_in places x.high) → IsRangeOf (λ a b c. pos (norm_in places a)) x y z result
  norms_below h low high = range_by (λ a b c. pos (norm_in places a)) x y z result (at x.low _ (low_within x.ordered) low) (at x.high _ (high_within x.ordered) high)
      (λ a b c inside. record {
        above = le_trans (le_of_eq low) (lifted _ _ (norm_rises places x.low a (le_trans inside.first.below h) inside.first.above));
        below = le_trans (lifted _ _ (norm_rises places a x.high h inside.first.below)) (le_of_eq (sym high));
      })

  pub norms_above : pos 1 ≤ℤ x.low → result.low ≡ pos (norm_in places x.high) → result.high ≡ pos (norm_in places x.low) → IsRangeOf (λ a b c. pos (norm_in places a)) x y z result
  norms_above h low high = range_by (λ a b c. pos (norm_in places a)) x y z result (at x.high _ (high_within x.ordered) low) (at x.low _ (low_within x.ordered) high)
      (λ a b c inside. record {
        above = le_trans (le_of_eq low) (lifted _ _ (norm_falls places a x.high (le_trans h inside.first.above) inside.first.below));
        below = le_trans (lifted _ _ (norm_falls places x.low a h inside.first.above)) (le_of_eq (sym high));
      })

  pub norms_across : x.low ≤ℤ negsuc 0 → pos 0 ≤ℤ x.high → result.low ≡ pos 0 → result.high ≡ pos (norm_in places (negsuc 0)) → IsRangeOf (λ a b c. pos (norm_in places a)) x y z result
  norms_across h k low high = range_by (λ a b c. pos (norm_in places a)) x y z result
      (at (pos 0) _ (record { above = le_trans h (omega (arith, ints)); below = k }) low)
      (at (negsuc 0) _ (record { above = h; below = le_trans (omega (arith, ints)) k }) high)
      (λ a b c inside. record {
        above = le_trans (le_of_eq low) (omega (arith, ints));
        below = le_trans (lifted _ _ (norm_most places a)) (le_of_eq (sym high));
      })

  at_one : (a : ℤ) → pos 0 ≤ℤ a → norm_in places a ≤ norm_in places (pos 1)
  at_one (negsuc n) h = absurd (omega (arith, ints))
  at_one (pos zero) h = omega arith
  at_one (pos (suc n)) h = norm_falls places (pos 1) (pos (suc n)) (omega (arith, ints)) (omega (arith, ints))

  pub norms_from_zero : x.low ≡ pos 0 → pos 1 ≤ℤ x.high → result.low ≡ pos 0 → result.high ≡ pos (norm_in places (pos 1)) → IsRangeOf (λ a b c. pos (norm_in places a)) x y z result
  norms_from_zero h k low high = range_by (λ a b c. pos (norm_in places a)) x y z result
      (at (pos 0) _ (record { above = le_of_eq h; below = le_trans (omega (arith, ints)) k }) low)
      (at (pos 1) _ (record { above = omega (arith, ints); below = k }) high)
      (λ a b c inside. record {
        above = le_trans (le_of_eq low) (omega (arith, ints));
        below = le_trans (lifted _ _ (at_one a (le_trans (le_of_eq (sym h)) inside.first.above))) (le_of_eq (sym high));
      })

  pub norms_of_zero : x.low ≡ pos 0 → x.high ≡ pos 0 → result.low ≡ pos 0 → result.high ≡ pos 0 → IsRangeOf (λ a b c. pos (norm_in places a)) x y z result
  norms_of_zero h k low high =
      let w : Holds x (pos 0) = record { above = le_of_eq h; below = le_of_eq (sym k) } in
      range_by (λ a b c. pos (norm_in places a)) x y z result (at (pos 0) _ w low) (at (pos 0) _ w high)
      (λ a b c inside.
      let e : a ≡ pos 0 = le_antisym (le_trans inside.first.below (le_of_eq k)) (le_trans (le_of_eq (sym h)) inside.first.above) in
      let n : pos (norm_in places a) ≡ pos 0 = ap (λ (v : ℤ). pos (norm_in places v)) e in
      record { above = le_of_eq (low ∙ sym n); below = le_of_eq (n ∙ sym high) })

-- ---- the two operators
pub norm_domain : (op : Op) → IsNorm op → (a b : ℤ) → IsTrue (in_domain op a b)
unfolding in_domain
norm_domain op h a b = ⊎_elim
    (λ e. subst (λ o. IsTrue (in_domain o a b)) (sym e) refl)
    (λ e. subst (λ o. IsTrue (in_domain o a b)) (sym e) refl) h

-- how many places the norm of each counts
pub norm_value : (op : Op) → IsNorm op → (places : ℕ) × ((a b c : ℤ) → pos (norm_in places a) ≡ value_of op a b c)
unfolding formula_of
norm_value op h = ⊎_elim
    (λ e. (14, λ a b c. subst (λ o. pos (norm_in 14 a) ≡ value_of o a b c) (sym e) refl))
    (λ e. (30, λ a b c. subst (λ o. pos (norm_in 30 a) ≡ value_of o a b c) (sym e) refl)) h

pub in_order_below : (places : ℕ) (u v p q : ℤ) → v ≤ℤ negsuc 0 → u ≤ℤ v → p ≡ pos (norm_in places u) → q ≡ pos (norm_in places v) → p ≤ℤ q
in_order_below places u v p q h k e f = le_trans (le_of_eq e) (le_trans (lifted _ _ (norm_rises places u v h k)) (le_of_eq (sym f)))

pub in_order_above : (places : ℕ) (u v p q : ℤ) → pos 1 ≤ℤ u → u ≤ℤ v → p ≡ pos (norm_in places v) → q ≡ pos (norm_in places u) → p ≤ℤ q
in_order_above places u v p q h k e f = le_trans (le_of_eq e) (le_trans (lifted _ _ (norm_falls places u v h k)) (le_of_eq (sym f)))

pub norm_types : (op : Op) → IsNorm op → (a : ℤ) → IsWord16 a → ArgsFit op a (pos 0) (pos 0)
norm_types op h a w = ⊎_elim
    (λ e. subst (λ o. ArgsFit o a (pos 0) (pos 0)) (sym e) (record { first = w; second = tt; third = tt }))
    (λ e. subst (λ o. ArgsFit o a (pos 0) (pos 0)) (sym e) (record { first = wider a w; second = tt; third = tt })) h
  where
    wider : (a : ℤ) → IsWord16 a → IsWord32 a
    wider a w = let p = w.above in let q = w.below in record { above = omega (arith, ints); below = omega (arith, ints) }

pub norm_natural : (op : Op) → IsNorm op → (a v : ℤ) → v ≡ value_of op a (pos 0) (pos 0) → pos 0 ≤ℤ v
norm_natural op h a v e = let places = norm_value op h in let r : pos 0 ≤ℤ pos (norm_in places.0 a) = omega (arith, ints) in le_trans r (le_of_eq (places.1 a (pos 0) (pos 0) ∙ sym e))
