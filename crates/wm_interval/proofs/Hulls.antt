-- Intervals by their ends, over plain numbers.
use Rattle.std.proofs.Common.{◌≡◌, inl, inr, sym, subst, arith, ◌≤◌, ◌^◌, ℤ, ◌*ℤ◌, ◌≤ℤ◌, ◌<ℤ◌, w64}
use Rattle.std.specs.Prelude.{unsigned_abs, FitsSigned}
use Rattle.std.specs.Int.{int_max, int_min}
use Rattle.std.proofs.lemmas.Int.{ints, clamps, fits_signed_mul}
use Rattle.wm_interval.specs.Holds.{Holds, IsHullOf, InEither, InBoth}
use Rattle.wm_interval.specs.declared.Interval.{Interval}
use Rattle.wm_numbers.proofs.Extremes.{least_cut, greatest_cut}
use Rattle.wm_numbers.proofs.Order.{low_within, high_within}
use Rattle.wm_numbers.specs.Extremes.{LeastOf, GreatestOf}
use Rattle.wm_numbers.specs.Within.{Within}

-- an interval whose ends are the least and the greatest
pub hull_of : (Is : ℤ → Type 0) (i : Interval) (a b : ℤ) → i.low ≡ a → i.high ≡ b → LeastOf Is a → GreatestOf Is b → IsHullOf Is i
hull_of Is i a b e f h k = record { low_is = subst (LeastOf Is) (sym e) h; high_is = subst (GreatestOf Is) (sym f) k }

-- the numbers between two ends
pub least_within : (low high : ℤ) → low ≤ℤ high → LeastOf (Within low high) low
least_within low high h = record { attained = low_within h; least = λ z w. w.above }

pub greatest_within : (low high : ℤ) → low ≤ℤ high → GreatestOf (Within low high) high
greatest_within low high h = record { attained = high_within h; greatest = λ z w. w.below }

-- the ends of a join
pub least_either : (a b : Interval) → LeastOf (InEither a b) (int_min a.low b.low)
least_either a b = least_cut (λ z h. inl h) (λ z h. inr h) (λ z h. h) (least_within a.low a.high a.ordered) (least_within b.low b.high b.ordered)

pub greatest_either : (a b : Interval) → GreatestOf (InEither a b) (int_max a.high b.high)
greatest_either a b = greatest_cut (λ z h. inl h) (λ z h. inr h) (λ z h. h) (greatest_within a.low a.high a.ordered) (greatest_within b.low b.high b.ordered)

-- what lies between the greater low end and the lesser high end lies in both
pub both_from : (a b c d z : ℤ) → int_max a c ≤ℤ z → z ≤ℤ int_min b d → Within a b z × Within c d z
both_from a b c d z h k = (record { above = omega (arith, ints, clamps); below = omega (arith, ints, clamps) }, record { above = omega (arith, ints, clamps); below = omega (arith, ints, clamps) })

pub above_both : (a b c d z : ℤ) → Within a b z × Within c d z → int_max a c ≤ℤ z
above_both a b c d z w = omega (arith, ints, clamps, w.0.above, w.1.above)

pub below_both : (a b c d z : ℤ) → Within a b z × Within c d z → z ≤ℤ int_min b d
below_both a b c d z w = omega (arith, ints, clamps, w.0.below, w.1.below)

-- a meet by its ends
module _ (a b r : Interval) (low_is : r.low ≡ int_max a.low b.low) (high_is : r.high ≡ int_min a.high b.high) where
  pub in_both : (z : ℤ) → Holds r z → InBoth a b z
  in_both z w = both_from a.low a.high b.low b.high z (subst (λ (x : ℤ). x ≤ℤ z) low_is w.above) (subst (λ (x : ℤ). z ≤ℤ x) high_is w.below)

  pub in_meet : (z : ℤ) → InBoth a b z → Holds r z
  in_meet z w = record { above = subst (λ (x : ℤ). x ≤ℤ z) (sym low_is) (above_both a.low a.high b.low b.high z w); below = subst (λ (x : ℤ). z ≤ℤ x) (sym high_is) (below_both a.low a.high b.low b.high z w) }

  pub hull_both : IsHullOf (InBoth a b) r
  hull_both = record {
    low_is = record { attained = in_both r.low (low_within r.ordered); least = λ z w. (in_meet z w).above };
    high_is = record { attained = in_both r.high (high_within r.ordered); greatest = λ z w. (in_meet z w).below };
  }

-- nothing lies in both where the greater low end passes the lesser high end
pub apart : (a b : Interval) → int_min a.high b.high <ℤ int_max a.low b.low → (z : ℤ) → InBoth a b z → ⊥
apart a b h z w = let l = above_both a.low a.high b.low b.high z w in let g = below_both a.low a.high b.low b.high z w in omega (arith, ints)

-- a product of two numbers of sizes at most 2^31 has a size of at most 2^62
pub product_fits : (a b : ℤ) → unsigned_abs a ≤ 2 ^ 31 → unsigned_abs b ≤ 2 ^ 31 → FitsSigned w64 (a *ℤ b)
product_fits a b h k = fits_signed_mul w64 a b (2 ^ 31) (2 ^ 31) h k (omega arith)

-- the least of four numbers is at most the greatest
pub four_in_order : (a b c d x y : ℤ) → x ≡ int_min (int_min a b) (int_min c d) → y ≡ int_max (int_max a b) (int_max c d) → x ≤ℤ y
four_in_order a b c d x y e f = omega (arith, ints, clamps)
