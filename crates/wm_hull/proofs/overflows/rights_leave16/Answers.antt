use Rattle.std.proofs.Common.{neg_ℤ, arith}
use Rattle.std.proofs.lemmas.Int.{ints}
use Rattle.wm_numbers.proofs.Order.{low_within, neg_mono}
use Rattle.wm_ops.specs.Clamping.{leaves16}
use Rattle.wm_ops.specs.Shifts.{shr_of, shr_r_of}
use Rattle.wm_hull.proofs.Telling.{tells_same}
use Rattle.wm_hull.proofs.ShiftRanges.{left_leaves, shl_changed, shr_r_changed}
use Rattle.wm_hull.proofs.Failing.{tells_count16}
use Rattle.wm_hull.proofs.overflows.rights_leave16.Goals as goal

pub returns : goal.returns
returns c = record {
  down = λ z.
      tells_same (λ a b d. left_leaves leaves16 a (neg_ℤ b)) (λ a b d. (shr_of a b).changed) c.args.x c.args.counts z (λ a b d. shl_changed a (neg_ℤ b)) c.shifts_leave16.result
      (tells_count16 neg_ℤ c.args.x c.args.counts z c.args.counts.low (low_within c.args.counts.ordered) (λ k h. neg_mono h.above) c.shifts_leave16.result _
      (let low = c.requires.second.low_in.above in let high = c.requires.second.low_in.below in omega (arith, ints)) c.shifts_leave16.ensures.right c.shifts_leave16.ensures.left);
  rounded = λ z.
      tells_same (λ a b d. left_leaves leaves16 a (neg_ℤ b)) (λ a b d. (shr_r_of a b).changed) c.args.x c.args.counts z (λ a b d. shr_r_changed a b) c.shifts_leave16.result
      (tells_count16 neg_ℤ c.args.x c.args.counts z c.args.counts.low (low_within c.args.counts.ordered) (λ k h. neg_mono h.above) c.shifts_leave16.result _
      (let low = c.requires.second.low_in.above in let high = c.requires.second.low_in.below in omega (arith, ints)) c.shifts_leave16.ensures.right c.shifts_leave16.ensures.left);
}
