use Rattle.std.proofs.Common.{arith}
use Rattle.std.proofs.lemmas.Int.{ints}
use Rattle.wm_hull.proofs.Failing.{moved32}
use Rattle.wm_hull.proofs.overflows.shifts_leave32.Goals as goal

pub returns-clause-left : goal.returns-clause-left
returns-clause-left c = λ k is.
    moved32 c.leaves32.result _ _ c.args.x.low c.args.x.high _ k c.moved.ensures.low c.moved.ensures.high
    (omega (arith, ints, is, c.unsigned_abs.ensures.value)) c.leaves32.ensures
