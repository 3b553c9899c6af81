-- The shifts among the operators.
use Rattle.std.proofs.Common.{◌≡◌, ⊎_elim, refl, sym, subst, ◌∙◌, ℤ, pos, negsuc, neg_ℤ, ◌≤ℤ◌, IsTrue}
use Rattle.wm_numbers.proofs.Order.{le_refl, le_trans, le_of_eq, low_within, high_within}
use Rattle.wm_numbers.specs.Within.{Within}
use Rattle.wm_interval.specs.Holds.{Holds}
use Rattle.wm_interval.specs.declared.Interval.{Interval}
use Rattle.wm_ops.specs.Arguments.{ArgsFit}
use Rattle.wm_ops.specs.Outcomes.{value_of, formula_of, in_domain}
use Rattle.wm_ops.specs.declared.operators.Op.{Op}
use Rattle.wm_ops.specs.declared.operators.Op.TheVariants.{Shl, Shr, ShrR, LShl, LShr, LShrR}
use Rattle.wm_hull.specs.Boxes.{BoxesFit, zero_box}
use Rattle.wm_hull.specs.Ranges.{IsRangeOf, IsCountFor, IsLeftShift, IsRightShift}
use Rattle.wm_hull.proofs.Narrowing.{fits_between}
use Rattle.wm_hull.proofs.ShiftRanges.{turn_ordered, turn_range, straight, opposite, shl_value, l_shl_value, shr_r_value, l_shr_r_value}
use Rattle.wm_hull.proofs.Spans.{range_same}
use Rattle.wm_hull.proofs.Turning.{Turns, left, left_rounded, left_turns, rounded_turns}

pub left_domain : (op : Op) → IsLeftShift op → (a b : ℤ) → IsTrue (in_domain op a b)
unfolding in_domain
left_domain op h a b = ⊎_elim
    (λ e. subst (λ o. IsTrue (in_domain o a b)) (sym e) refl)
    (λ e. subst (λ o. IsTrue (in_domain o a b)) (sym e) refl) h

pub right_domain : (op : Op) → IsRightShift op → (a b : ℤ) → IsTrue (in_domain op a b)
unfolding in_domain
right_domain op h a b = ⊎_elim
    (λ e. subst (λ o. IsTrue (in_domain o a b)) (sym e) refl)
    (λ k. ⊎_elim
    (λ e. subst (λ o. IsTrue (in_domain o a b)) (sym e) refl)
    (λ m. ⊎_elim
    (λ e. subst (λ o. IsTrue (in_domain o a b)) (sym e) refl)
    (λ e. subst (λ o. IsTrue (in_domain o a b)) (sym e) refl) m) k) h

-- arguments of the two boxes are of their types
pub pair_fits : (op : Op) (x y : Interval) (a b : ℤ) → BoxesFit op x y zero_box → Holds x a → Holds y b → ArgsFit op a b (pos 0)
pair_fits op x y a b f p q = fits_between op x y zero_box a b (pos 0) f (record { first = p; second = q; third = low_within (le_refl (pos 0)) })

-- what a shift of one operator owes: its ends are in order, and tell its range
pub record ShiftRange (op : Op) (x y : Interval) (low_count high_count : ℤ) : Type 0 where
  pub ordered : value_of op x.low low_count (pos 0) ≤ℤ value_of op x.high high_count (pos 0)
  pub tells : (z result : Interval) → result.low ≡ value_of op x.low low_count (pos 0) → result.high ≡ value_of op x.high high_count (pos 0) → IsRangeOf (value_of op) x y z result

module _ (op : Op) (x y : Interval) (g : ℤ → ℤ → ℤ) (lo hi : ℤ) (t : Turns g lo hi) (low_in : Within lo hi x.low) (high_in : Within lo hi x.high) (low_count high_count : ℤ) where
  by_left : ((a b c : ℤ) → g a b ≡ value_of op a b c) → IsCountFor x.low y.low y.high low_count → IsCountFor x.high y.high y.low high_count → ShiftRange op x y low_count high_count
  by_left value for_low for_high = record {
    ordered = le_trans (le_of_eq (sym (value x.low low_count (pos 0))))
        (le_trans (turn_ordered g lo hi t (λ n. n) x y x y.low y.high (low_within y.ordered) (high_within y.ordered) (straight y) low_in high_in low_count high_count for_low for_high)
        (le_of_eq (value x.high high_count (pos 0))));
    tells = λ z result low high. range_same (λ a b c. g a b) x y z result (value_of op) value
        (turn_range g lo hi t (λ n. n) x y z y.low y.high (low_within y.ordered) (high_within y.ordered) (straight y) low_in high_in low_count high_count for_low for_high result
        (low ∙ sym (value x.low low_count (pos 0))) (high ∙ sym (value x.high high_count (pos 0))));
  }

  by_right : ((a b c : ℤ) → g a (neg_ℤ b) ≡ value_of op a b c) → IsCountFor x.low y.high y.low low_count → IsCountFor x.high y.low y.high high_count → ShiftRange op x y low_count high_count
  by_right value for_low for_high = record {
    ordered = le_trans (le_of_eq (sym (value x.low low_count (pos 0))))
        (le_trans (turn_ordered g lo hi t neg_ℤ x y x y.high y.low (high_within y.ordered) (low_within y.ordered) (opposite y) low_in high_in low_count high_count for_low for_high)
        (le_of_eq (value x.high high_count (pos 0))));
    tells = λ z result low high. range_same (λ a b c. g a (neg_ℤ b)) x y z result (value_of op) value
        (turn_range g lo hi t neg_ℤ x y z y.high y.low (high_within y.ordered) (low_within y.ordered) (opposite y) low_in high_in low_count high_count for_low for_high result
        (low ∙ sym (value x.low low_count (pos 0))) (high ∙ sym (value x.high high_count (pos 0))));
  }

shl_is : (x y : Interval) (low_count high_count : ℤ) → BoxesFit Shl x y zero_box → IsCountFor x.low y.low y.high low_count → IsCountFor x.high y.high y.low high_count → ShiftRange Shl x y low_count high_count
unfolding formula_of
shl_is x y low_count high_count f p q = by_left Shl x y (left (negsuc 32767) (pos 32767)) (negsuc 32767) (pos 32767) (left_turns (negsuc 32767) (pos 32767)) f.low_ends.first f.high_ends.first low_count high_count (λ a b c. shl_value a b) p q

l_shl_is : (x y : Interval) (low_count high_count : ℤ) → BoxesFit LShl x y zero_box → IsCountFor x.low y.low y.high low_count → IsCountFor x.high y.high y.low high_count → ShiftRange LShl x y low_count high_count
unfolding formula_of
l_shl_is x y low_count high_count f p q = by_left LShl x y (left (negsuc 2147483647) (pos 2147483647)) (negsuc 2147483647) (pos 2147483647) (left_turns (negsuc 2147483647) (pos 2147483647)) f.low_ends.first f.high_ends.first low_count high_count (λ a b c. l_shl_value a b) p q

shr_is : (x y : Interval) (low_count high_count : ℤ) → BoxesFit Shr x y zero_box → IsCountFor x.low y.high y.low low_count → IsCountFor x.high y.low y.high high_count → ShiftRange Shr x y low_count high_count
unfolding formula_of
shr_is x y low_count high_count f p q = by_right Shr x y (left (negsuc 32767) (pos 32767)) (negsuc 32767) (pos 32767) (left_turns (negsuc 32767) (pos 32767)) f.low_ends.first f.high_ends.first low_count high_count (λ a b c. shl_value a (neg_ℤ b)) p q

l_shr_is : (x y : Interval) (low_count high_count : ℤ) → BoxesFit LShr x y zero_box → IsCountFor x.low y.high y.low low_count → IsCountFor x.high y.low y.high high_count → ShiftRange LShr x y low_count high_count
unfolding formula_of
l_shr_is x y low_count high_count f p q = by_right LShr x y (left (negsuc 2147483647) (pos 2147483647)) (negsuc 2147483647) (pos 2147483647) (left_turns (negsuc 2147483647) (pos 2147483647)) f.low_ends.first f.high_ends.first low_count high_count (λ a b c. l_shl_value a (neg_ℤ b)) p q

shr_r_is : (x y : Interval) (low_count high_count : ℤ) → BoxesFit ShrR x y zero_box → IsCountFor x.low y.high y.low low_count → IsCountFor x.high y.low y.high high_count → ShiftRange ShrR x y low_count high_count
unfolding formula_of
shr_r_is x y low_count high_count f p q = by_right ShrR x y (left_rounded (negsuc 32767) (pos 32767)) (negsuc 32767) (pos 32767) (rounded_turns (negsuc 32767) (pos 32767)) f.low_ends.first f.high_ends.first low_count high_count (λ a b c. shr_r_value a b) p q

l_shr_r_is : (x y : Interval) (low_count high_count : ℤ) → BoxesFit LShrR x y zero_box → IsCountFor x.low y.high y.low low_count → IsCountFor x.high y.low y.high high_count → ShiftRange LShrR x y low_count high_count
unfolding formula_of
l_shr_r_is x y low_count high_count f p q = by_right LShrR x y (left_rounded (negsuc 2147483647) (pos 2147483647)) (negsuc 2147483647) (pos 2147483647) (rounded_turns (negsuc 2147483647) (pos 2147483647)) f.low_ends.first f.high_ends.first low_count high_count (λ a b c. l_shr_r_value a b) p q

pub left_is : (op : Op) → IsLeftShift op → (x y : Interval) (low_count high_count : ℤ) → BoxesFit op x y zero_box → IsCountFor x.low y.low y.high low_count → IsCountFor x.high y.high y.low high_count → ShiftRange op x y low_count high_count
left_is op h x y low_count high_count f p q =
    let P : Op → Type 0 = λ o. BoxesFit o x y zero_box → ShiftRange o x y low_count high_count in
    ⊎_elim
    (λ e. subst P (sym e) (λ k. shl_is x y low_count high_count k p q) f)
    (λ e. subst P (sym e) (λ k. l_shl_is x y low_count high_count k p q) f) h

pub right_is : (op : Op) → IsRightShift op → (x y : Interval) (low_count high_count : ℤ) → BoxesFit op x y zero_box → IsCountFor x.low y.high y.low low_count → IsCountFor x.high y.low y.high high_count → ShiftRange op x y low_count high_count
right_is op h x y low_count high_count f p q =
    let P : Op → Type 0 = λ o. BoxesFit o x y zero_box → ShiftRange o x y low_count high_count in
    ⊎_elim
    (λ e. subst P (sym e) (λ k. shr_is x y low_count high_count k p q) f)
    (λ m. ⊎_elim
    (λ e. subst P (sym e) (λ k. shr_r_is x y low_count high_count k p q) f)
    (λ n. ⊎_elim
    (λ e. subst P (sym e) (λ k. l_shr_is x y low_count high_count k p q) f)
    (λ e. subst P (sym e) (λ k. l_shr_r_is x y low_count high_count k p q) f) n) m) h
