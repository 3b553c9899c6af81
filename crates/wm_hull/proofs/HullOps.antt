-- The exact range of each operator, from the ranges of the steps of its formula.
use Rattle.std.proofs.Common.{◌≡◌, refl, ℤ, pos, ◌+ℤ◌, ◌-ℤ◌, ◌*ℤ◌, neg_ℤ, ◌≤ℤ◌, arith}
use Rattle.std.proofs.lemmas.Int.{ints, clamps}
use Rattle.std.specs.Prelude.{unsigned_abs}
use Rattle.std.specs.Int.{int_max, int_min}
use Rattle.wm_numbers.proofs.Order.{neg_mono}
use Rattle.wm_numbers.specs.Clamp.{clamp16, clamp32}
use Rattle.wm_numbers.specs.Floor.{floor_shift}
use Rattle.wm_interval.specs.Holds.{IsHullOf, ResultOn}
use Rattle.wm_interval.specs.declared.Interval.{Interval}
use Rattle.wm_ops.specs.Parts.{low_half}
use Rattle.wm_ops.specs.Outcomes.{formula_of, in_domain, value_of}
use Rattle.wm_ops.specs.declared.operators.Op.TheVariants.{Add, Sub, AbsS, Negate, Mult, MultR, Shl, Shr, ShrR, LAdd, LSub, LAbs, LNegate, LMult, LMac, LMsu, LShl, LShr, LShrR, ExtractH, ExtractL, LDepositH, LDepositL, Round, MacR, MsuR, NormS, NormL, SMax, SMin, LMax, LMin, LMult0, LMac0, LMsu0}
use Rattle.wm_hull.specs.Ranges.{IsRangeOf, Result}
use Rattle.wm_hull.proofs.Rising.{Rising, clamp16_rises, clamp32_rises, floor_rises, add_rises, times_rises}
use Rattle.wm_hull.proofs.Spans.{hull_all, hull_same, hull_step, range_first, range_last_two, range_minus, range_plus, range_step, range_two, range_turned, range_up_up}

round_rises : Rising (λ v. floor_shift (clamp32 (v +ℤ pos 32768)) 16)
round_rises = record { keeps = λ a b h. (floor_rises 16).keeps _ _ (clamp32_rises.keeps _ _ ((add_rises (pos 32768)).keeps a b h)) }

max_up : (a b c d : ℤ) → a ≤ℤ c → b ≤ℤ d → int_max a b ≤ℤ int_max c d
max_up a b c d h k = omega (arith, ints, clamps)

min_up : (a b c d : ℤ) → a ≤ℤ c → b ≤ℤ d → int_min a b ≤ℤ int_min c d
min_up a b c d h k = omega (arith, ints, clamps)

pub add_hull : (x y z range result : Interval) → IsHullOf (ResultOn ◌+ℤ◌ x y) range → result.low ≡ clamp16 range.low → result.high ≡ clamp16 range.high → IsHullOf (Result Add x y z) result
unfolding formula_of in_domain
add_hull x y z range result h low high = hull_step Add x y z range result (λ a b c. ◌+ℤ◌ a b) clamp16 clamp16_rises (λ a b. refl) (λ a b c. refl) (range_two ◌+ℤ◌ x y z range h) low high

pub sub_hull : (x y z range result : Interval) → IsHullOf (ResultOn ◌-ℤ◌ x y) range → result.low ≡ clamp16 range.low → result.high ≡ clamp16 range.high → IsHullOf (Result Sub x y z) result
unfolding formula_of in_domain
sub_hull x y z range result h low high = hull_step Sub x y z range result (λ a b c. ◌-ℤ◌ a b) clamp16 clamp16_rises (λ a b. refl) (λ a b c. refl) (range_two ◌-ℤ◌ x y z range h) low high

pub l_add_hull : (x y z range result : Interval) → IsHullOf (ResultOn ◌+ℤ◌ x y) range → result.low ≡ clamp32 range.low → result.high ≡ clamp32 range.high → IsHullOf (Result LAdd x y z) result
unfolding formula_of in_domain
l_add_hull x y z range result h low high = hull_step LAdd x y z range result (λ a b c. ◌+ℤ◌ a b) clamp32 clamp32_rises (λ a b. refl) (λ a b c. refl) (range_two ◌+ℤ◌ x y z range h) low high

pub l_sub_hull : (x y z range result : Interval) → IsHullOf (ResultOn ◌-ℤ◌ x y) range → result.low ≡ clamp32 range.low → result.high ≡ clamp32 range.high → IsHullOf (Result LSub x y z) result
unfolding formula_of in_domain
l_sub_hull x y z range result h low high = hull_step LSub x y z range result (λ a b c. ◌-ℤ◌ a b) clamp32 clamp32_rises (λ a b. refl) (λ a b c. refl) (range_two ◌-ℤ◌ x y z range h) low high

pub mult_hull : (x y z range result : Interval) → IsHullOf (ResultOn (λ a b. floor_shift (a *ℤ b) 15) x y) range → result.low ≡ clamp16 range.low → result.high ≡ clamp16 range.high → IsHullOf (Result Mult x y z) result
unfolding formula_of in_domain
mult_hull x y z range result h low high = hull_step Mult x y z range result (λ a b c. floor_shift (a *ℤ b) 15) clamp16 clamp16_rises (λ a b. refl) (λ a b c. refl) (range_two (λ a b. floor_shift (a *ℤ b) 15) x y z range h) low high

pub mult_r_hull : (x y z range result : Interval) → IsHullOf (ResultOn (λ a b. floor_shift ((a *ℤ b) +ℤ pos 16384) 15) x y) range → result.low ≡ clamp16 range.low → result.high ≡ clamp16 range.high → IsHullOf (Result MultR x y z) result
unfolding formula_of in_domain
mult_r_hull x y z range result h low high = hull_step MultR x y z range result (λ a b c. floor_shift ((a *ℤ b) +ℤ pos 16384) 15) clamp16 clamp16_rises (λ a b. refl) (λ a b c. refl) (range_two (λ a b. floor_shift ((a *ℤ b) +ℤ pos 16384) 15) x y z range h) low high

pub l_mult_hull : (x y z range result : Interval) → IsHullOf (ResultOn (λ a b. pos 2 *ℤ (a *ℤ b)) x y) range → result.low ≡ clamp32 range.low → result.high ≡ clamp32 range.high → IsHullOf (Result LMult x y z) result
unfolding formula_of in_domain
l_mult_hull x y z range result h low high = hull_step LMult x y z range result (λ a b c. pos 2 *ℤ (a *ℤ b)) clamp32 clamp32_rises (λ a b. refl) (λ a b c. refl) (range_two (λ a b. pos 2 *ℤ (a *ℤ b)) x y z range h) low high

pub l_mult0_hull : (x y z range : Interval) → IsHullOf (ResultOn ◌*ℤ◌ x y) range → IsHullOf (Result LMult0 x y z) range
unfolding formula_of in_domain
l_mult0_hull x y z range h = hull_same LMult0 x y z range (λ a b c. a *ℤ b) (λ a b. refl) (λ a b c. refl) (range_two ◌*ℤ◌ x y z range h)

pub abs_s_hull : (x y z range result : Interval) → IsRangeOf (λ a b c. pos (unsigned_abs a)) x y z range → result.low ≡ clamp16 range.low → result.high ≡ clamp16 range.high → IsHullOf (Result AbsS x y z) result
unfolding formula_of in_domain
abs_s_hull x y z range result h low high = hull_step AbsS x y z range result (λ a b c. pos (unsigned_abs a)) clamp16 clamp16_rises (λ a b. refl) (λ a b c. refl) h low high

pub l_abs_hull : (x y z range result : Interval) → IsRangeOf (λ a b c. pos (unsigned_abs a)) x y z range → result.low ≡ clamp32 range.low → result.high ≡ clamp32 range.high → IsHullOf (Result LAbs x y z) result
unfolding formula_of in_domain
l_abs_hull x y z range result h low high = hull_step LAbs x y z range result (λ a b c. pos (unsigned_abs a)) clamp32 clamp32_rises (λ a b. refl) (λ a b c. refl) h low high

pub negate_hull : (x y z range result : Interval) → range.low ≡ neg_ℤ x.high → range.high ≡ neg_ℤ x.low → result.low ≡ clamp16 range.low → result.high ≡ clamp16 range.high → IsHullOf (Result Negate x y z) result
unfolding formula_of in_domain
negate_hull x y z range result from to low high = hull_step Negate x y z range result (λ a b c. neg_ℤ a) clamp16 clamp16_rises (λ a b. refl) (λ a b c. refl) (range_turned neg_ℤ x y z range (λ a b h. neg_mono h) from to) low high

pub l_negate_hull : (x y z range result : Interval) → range.low ≡ neg_ℤ x.high → range.high ≡ neg_ℤ x.low → result.low ≡ clamp32 range.low → result.high ≡ clamp32 range.high → IsHullOf (Result LNegate x y z) result
unfolding formula_of in_domain
l_negate_hull x y z range result from to low high = hull_step LNegate x y z range result (λ a b c. neg_ℤ a) clamp32 clamp32_rises (λ a b. refl) (λ a b c. refl) (range_turned neg_ℤ x y z range (λ a b h. neg_mono h) from to) low high

pub extract_h_hull : (x y z result : Interval) → result.low ≡ floor_shift x.low 16 → result.high ≡ floor_shift x.high 16 → IsHullOf (Result ExtractH x y z) result
unfolding formula_of in_domain
extract_h_hull x y z result low high = hull_step ExtractH x y z x result (λ a b c. a) (λ v. floor_shift v 16) (floor_rises 16) (λ a b. refl) (λ a b c. refl) (range_first x y z) low high

pub l_deposit_h_hull : (x y z result : Interval) → result.low ≡ x.low *ℤ pos 65536 → result.high ≡ x.high *ℤ pos 65536 → IsHullOf (Result LDepositH x y z) result
unfolding formula_of in_domain
l_deposit_h_hull x y z result low high = hull_step LDepositH x y z x result (λ a b c. a) (λ v. v *ℤ pos 65536) (times_rises 65536) (λ a b. refl) (λ a b c. refl) (range_first x y z) low high

pub round_hull : (x y z result : Interval) → result.low ≡ floor_shift (clamp32 (x.low +ℤ pos 32768)) 16 → result.high ≡ floor_shift (clamp32 (x.high +ℤ pos 32768)) 16 → IsHullOf (Result Round x y z) result
unfolding formula_of in_domain
round_hull x y z result low high = hull_step Round x y z x result (λ a b c. a) (λ v. floor_shift (clamp32 (v +ℤ pos 32768)) 16) round_rises (λ a b. refl) (λ a b c. refl) (range_first x y z) low high

pub l_deposit_l_hull : (x y z : Interval) → IsHullOf (Result LDepositL x y z) x
unfolding formula_of in_domain
l_deposit_l_hull x y z = hull_same LDepositL x y z x (λ a b c. a) (λ a b. refl) (λ a b c. refl) (range_first x y z)

pub extract_l_hull : (x y z range : Interval) → IsRangeOf (λ a b c. low_half a) x y z range → IsHullOf (Result ExtractL x y z) range
unfolding formula_of in_domain
extract_l_hull x y z range h = hull_same ExtractL x y z range (λ a b c. low_half a) (λ a b. refl) (λ a b c. refl) h

pub l_mac_hull : (x y z range result : Interval) → IsRangeOf (λ a b c. a +ℤ clamp32 (pos 2 *ℤ (b *ℤ c))) x y z range → result.low ≡ clamp32 range.low → result.high ≡ clamp32 range.high → IsHullOf (Result LMac x y z) result
unfolding formula_of in_domain
l_mac_hull x y z range result h low high = hull_step LMac x y z range result (λ a b c. a +ℤ clamp32 (pos 2 *ℤ (b *ℤ c))) clamp32 clamp32_rises (λ a b. refl) (λ a b c. refl) h low high

pub l_msu_hull : (x y z range result : Interval) → IsRangeOf (λ a b c. a -ℤ clamp32 (pos 2 *ℤ (b *ℤ c))) x y z range → result.low ≡ clamp32 range.low → result.high ≡ clamp32 range.high → IsHullOf (Result LMsu x y z) result
unfolding formula_of in_domain
l_msu_hull x y z range result h low high = hull_step LMsu x y z range result (λ a b c. a -ℤ clamp32 (pos 2 *ℤ (b *ℤ c))) clamp32 clamp32_rises (λ a b. refl) (λ a b c. refl) h low high

pub mac_r_hull : (x y z range middle result : Interval) → IsRangeOf (λ a b c. a +ℤ clamp32 (pos 2 *ℤ (b *ℤ c))) x y z range → middle.low ≡ clamp32 range.low → middle.high ≡ clamp32 range.high →
    result.low ≡ floor_shift (clamp32 (middle.low +ℤ pos 32768)) 16 → result.high ≡ floor_shift (clamp32 (middle.high +ℤ pos 32768)) 16 → IsHullOf (Result MacR x y z) result
unfolding formula_of in_domain
mac_r_hull x y z range middle result h from to low high = hull_step MacR x y z middle result (λ a b c. clamp32 (a +ℤ clamp32 (pos 2 *ℤ (b *ℤ c)))) (λ v. floor_shift (clamp32 (v +ℤ pos 32768)) 16) round_rises (λ a b. refl) (λ a b c. refl)
    (range_step (λ a b c. a +ℤ clamp32 (pos 2 *ℤ (b *ℤ c))) x y z range clamp32 middle clamp32_rises h from to) low high

pub msu_r_hull : (x y z range middle result : Interval) → IsRangeOf (λ a b c. a -ℤ clamp32 (pos 2 *ℤ (b *ℤ c))) x y z range → middle.low ≡ clamp32 range.low → middle.high ≡ clamp32 range.high →
    result.low ≡ floor_shift (clamp32 (middle.low +ℤ pos 32768)) 16 → result.high ≡ floor_shift (clamp32 (middle.high +ℤ pos 32768)) 16 → IsHullOf (Result MsuR x y z) result
unfolding formula_of in_domain
msu_r_hull x y z range middle result h from to low high = hull_step MsuR x y z middle result (λ a b c. clamp32 (a -ℤ clamp32 (pos 2 *ℤ (b *ℤ c)))) (λ v. floor_shift (clamp32 (v +ℤ pos 32768)) 16) round_rises (λ a b. refl) (λ a b c. refl)
    (range_step (λ a b c. a -ℤ clamp32 (pos 2 *ℤ (b *ℤ c))) x y z range clamp32 middle clamp32_rises h from to) low high

pub l_mac0_hull : (x y z product range result : Interval) → IsHullOf (ResultOn ◌*ℤ◌ y z) product → range.low ≡ x.low +ℤ product.low → range.high ≡ x.high +ℤ product.high → result.low ≡ clamp32 range.low → result.high ≡ clamp32 range.high → IsHullOf (Result LMac0 x y z) result
unfolding formula_of in_domain
l_mac0_hull x y z product range result h from to low high = hull_step LMac0 x y z range result (λ a b c. a +ℤ (b *ℤ c)) clamp32 clamp32_rises (λ a b. refl) (λ a b c. refl)
    (range_plus ◌*ℤ◌ x y z product range (range_last_two ◌*ℤ◌ x y z product h) from to) low high

pub l_msu0_hull : (x y z product range result : Interval) → IsHullOf (ResultOn ◌*ℤ◌ y z) product → range.low ≡ x.low -ℤ product.high → range.high ≡ x.high -ℤ product.low → result.low ≡ clamp32 range.low → result.high ≡ clamp32 range.high → IsHullOf (Result LMsu0 x y z) result
unfolding formula_of in_domain
l_msu0_hull x y z product range result h from to low high = hull_step LMsu0 x y z range result (λ a b c. a -ℤ (b *ℤ c)) clamp32 clamp32_rises (λ a b. refl) (λ a b c. refl)
    (range_minus ◌*ℤ◌ x y z product range (range_last_two ◌*ℤ◌ x y z product h) from to) low high

pub s_max_hull : (x y z result : Interval) → result.low ≡ int_max x.low y.low → result.high ≡ int_max x.high y.high → IsHullOf (Result SMax x y z) result
unfolding formula_of in_domain
s_max_hull x y z result low high = hull_same SMax x y z result (λ a b c. int_max a b) (λ a b. refl) (λ a b c. refl) (range_up_up int_max x y z result max_up low high)

pub s_min_hull : (x y z result : Interval) → result.low ≡ int_min x.low y.low → result.high ≡ int_min x.high y.high → IsHullOf (Result SMin x y z) result
unfolding formula_of in_domain
s_min_hull x y z result low high = hull_same SMin x y z result (λ a b c. int_min a b) (λ a b. refl) (λ a b c. refl) (range_up_up int_min x y z result min_up low high)

pub l_max_hull : (x y z result : Interval) → result.low ≡ int_max x.low y.low → result.high ≡ int_max x.high y.high → IsHullOf (Result LMax x y z) result
unfolding formula_of in_domain
l_max_hull x y z result low high = hull_same LMax x y z result (λ a b c. int_max a b) (λ a b. refl) (λ a b c. refl) (range_up_up int_max x y z result max_up low high)

pub l_min_hull : (x y z result : Interval) → result.low ≡ int_min x.low y.low → result.high ≡ int_min x.high y.high → IsHullOf (Result LMin x y z) result
unfolding formula_of in_domain
l_min_hull x y z result low high = hull_same LMin x y z result (λ a b c. int_min a b) (λ a b. refl) (λ a b c. refl) (range_up_up int_min x y z result min_up low high)

pub shl_hull : (x y z range : Interval) → IsRangeOf (value_of Shl) x y z range → IsHullOf (Result Shl x y z) range
unfolding in_domain
shl_hull x y z range h = hull_all Shl x y z range (λ a b. refl) h

pub shr_hull : (x y z range : Interval) → IsRangeOf (value_of Shr) x y z range → IsHullOf (Result Shr x y z) range
unfolding in_domain
shr_hull x y z range h = hull_all Shr x y z range (λ a b. refl) h

pub shr_r_hull : (x y z range : Interval) → IsRangeOf (value_of ShrR) x y z range → IsHullOf (Result ShrR x y z) range
unfolding in_domain
shr_r_hull x y z range h = hull_all ShrR x y z range (λ a b. refl) h

pub l_shl_hull : (x y z range : Interval) → IsRangeOf (value_of LShl) x y z range → IsHullOf (Result LShl x y z) range
unfolding in_domain
l_shl_hull x y z range h = hull_all LShl x y z range (λ a b. refl) h

pub l_shr_hull : (x y z range : Interval) → IsRangeOf (value_of LShr) x y z range → IsHullOf (Result LShr x y z) range
unfolding in_domain
l_shr_hull x y z range h = hull_all LShr x y z range (λ a b. refl) h

pub l_shr_r_hull : (x y z range : Interval) → IsRangeOf (value_of LShrR) x y z range → IsHullOf (Result LShrR x y z) range
unfolding in_domain
l_shr_r_hull x y z range h = hull_all LShrR x y z range (λ a b. refl) h

pub norm_s_hull : (x y z range : Interval) → IsRangeOf (value_of NormS) x y z range → IsHullOf (Result NormS x y z) range
unfolding in_domain
norm_s_hull x y z range h = hull_all NormS x y z range (λ a b. refl) h

pub norm_l_hull : (x y z range : Interval) → IsRangeOf (value_of NormL) x y z range → IsHullOf (Result NormL x y z) range
unfolding in_domain
norm_l_hull x y z range h = hull_all NormL x y z range (λ a b. refl) h
