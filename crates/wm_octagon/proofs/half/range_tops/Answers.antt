use Rattle.std.proofs.Common.{◌≡◌, ◌∙◌, ◌+◌, ◌*◌, pos, ◌-ℤ◌, neg_ℤ, set, arith, subst, sym, ap, refl, to_z, of_z, w64}
use Rattle.std.proofs.lemmas.List.{length-set, get_or-map}
use Rattle.wm_interval.specs.declared.Interval.{Interval}
use Rattle.wm_octagon.specs.HalfTable.{IsSmall}
use Rattle.wm_octagon.specs.Medium.{Filled}
use Rattle.wm_octagon.specs.Ranges.{low_of, range_top}
use Rattle.wm_octagon.proofs.Small.{small_read, small-zero, small_neg, neg-sub}
use Rattle.wm_octagon.proofs.Filled.{filled-none, filled-more}
use Rattle.wm_octagon.proofs.Ranges.{small-top, range_top-plus, range_top-minus}
use Rattle.wm_octagon.proofs.half.range_tops.Goals as goal

pub loop-v-init : goal.loop-v-init
loop-v-init c = record { long = refl; filled = filled-none IsSmall _ 64 small-zero }

pub loop-v-preserved : goal.loop-v-preserved
loop-v-preserved c =
    let rs = c.args.ranges.now in
    let v = c.loop-v.v in
    let r = c.index-ranges-v.result in
    let few = c.requires.few in
    let high : r.high ≡ range_top rs (2 * v) =
    ap (λ (q : Interval). q.high) c.index-ranges-v.is ∙ sym (get_or-map (λ (q : Interval). q.high) rs v r (pos 0) (omega arith)) ∙ sym (range_top-plus rs v) in
    let low : r.low ≡ low_of rs v =
    ap (λ (q : Interval). q.low) c.index-ranges-v.is ∙ sym (get_or-map (λ (q : Interval). q.low) rs v r (pos 0) (omega arith)) in
    let high_small = small-top rs (2 * v) c.requires.narrow in
    let minus_small = small-top rs (2 * v + 1) c.requires.narrow in
    let minus_is = range_top-minus rs v in
    let low_small : IsSmall r.low = small_neg _ (subst IsSmall (minus_is ∙ ap neg_ℤ (sym low)) minus_small) in
    let minus : pos 0 -ℤ to_z w64 (of_z w64 r.low) ≡ range_top rs (2 * v + 1) =
    ap (λ z. pos 0 -ℤ z) (small_read _ low_small) ∙ neg-sub r.low ∙ ap neg_ℤ low ∙ sym minus_is in
    let first = filled-more IsSmall (range_top rs) (2 * v) c.loop-v.tops (to_z w64 (of_z w64 r.high)) c.loop-v.invariant.filled (omega arith)
    (small_read _ (subst IsSmall (sym high) high_small) ∙ high) high_small in
    let long1 = length-set c.loop-v.tops (2 * v) (to_z w64 (of_z w64 r.high)) ∙ c.loop-v.invariant.long in
    let second = filled-more IsSmall (range_top rs) (2 * v + 1) _ (to_z w64 (of_z w64 (pos 0 -ℤ to_z w64 (of_z w64 r.low)))) first (omega arith)
    (small_read _ (subst IsSmall (sym minus) minus_small) ∙ minus) minus_small in
    let next : 2 * v + 1 + 1 ≡ 2 * (v + 1) = omega arith in
    let xs = set (set c.loop-v.tops (2 * v) (to_z w64 (of_z w64 r.high))) (2 * v + 1) (to_z w64 (of_z w64 (pos 0 -ℤ to_z w64 (of_z w64 r.low)))) in
    record {
      long = length-set _ _ _ ∙ long1;
      filled = subst (λ n. Filled IsSmall (range_top rs) n xs) next second;
    }
