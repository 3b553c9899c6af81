use Rattle.std.proofs.Common.{arith}
use Rattle.std.proofs.lemmas.Int.{ints}
use Rattle.wm_numbers.proofs.Order.{high_within}
use Rattle.wm_ops.specs.Clamping.{leaves16}
use Rattle.wm_ops.specs.Shifts.{shl_of}
use Rattle.wm_hull.proofs.Telling.{tells_same}
use Rattle.wm_hull.proofs.ShiftRanges.{left_leaves, shl_changed}
use Rattle.wm_hull.proofs.Failing.{tells_count16}
use Rattle.wm_hull.proofs.overflows.lefts_leave16.Goals as goal

pub returns : goal.returns
returns c = λ z.
    let y = c.args.counts in
    tells_same (λ a b d. left_leaves leaves16 a b) (λ a b d. (shl_of a b).changed) c.args.x y z (λ a b d. shl_changed a b) c.shifts_leave16.result
    (tells_count16 (λ n. n) c.args.x y z y.high (high_within y.ordered) (λ k h. h.below) c.shifts_leave16.result _
    (let low = c.requires.second.high_in.above in let high = c.requires.second.high_in.below in omega (arith, ints)) c.shifts_leave16.ensures.right c.shifts_leave16.ensures.left)
