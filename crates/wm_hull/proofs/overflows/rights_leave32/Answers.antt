use Rattle.std.proofs.Common.{neg_ℤ, arith}
use Rattle.std.proofs.lemmas.Int.{ints}
use Rattle.wm_numbers.proofs.Order.{low_within, neg_mono}
use Rattle.wm_ops.specs.Clamping.{leaves32}
use Rattle.wm_ops.specs.Shifts.{l_shr_of, l_shr_r_of}
use Rattle.wm_hull.proofs.Telling.{tells_same}
use Rattle.wm_hull.proofs.ShiftRanges.{left_leaves, l_shl_changed, l_shr_r_changed}
use Rattle.wm_hull.proofs.Failing.{tells_count32}
use Rattle.wm_hull.proofs.overflows.rights_leave32.Goals as goal

pub returns : goal.returns
returns c = record {
  down = λ z.
      tells_same (λ a b d. left_leaves leaves32 a (neg_ℤ b)) (λ a b d. (l_shr_of a b).changed) c.args.x c.args.counts z (λ a b d. l_shl_changed a (neg_ℤ b)) c.shifts_leave32.result
      (tells_count32 neg_ℤ c.args.x c.args.counts z c.args.counts.low (low_within c.args.counts.ordered) (λ k h. neg_mono h.above) c.shifts_leave32.result _
      (let low = c.requires.second.low_in.above in let high = c.requires.second.low_in.below in omega (arith, ints)) c.shifts_leave32.ensures.right c.shifts_leave32.ensures.left);
  rounded = λ z.
      tells_same (λ a b d. left_leaves leaves32 a (neg_ℤ b)) (λ a b d. (l_shr_r_of a b).changed) c.args.x c.args.counts z (λ a b d. l_shr_r_changed a b) c.shifts_leave32.result
      (tells_count32 neg_ℤ c.args.x c.args.counts z c.args.counts.low (low_within c.args.counts.ordered) (λ k h. neg_mono h.above) c.shifts_leave32.result _
      (let low = c.requires.second.low_in.above in let high = c.requires.second.low_in.below in omega (arith, ints)) c.shifts_leave32.ensures.right c.shifts_leave32.ensures.left);
}
