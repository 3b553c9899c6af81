use Rattle.std.proofs.Common.{ℤ, pos, ◌*ℤ◌}
use Rattle.wm_hull.proofs.Spans.{range_two}
use Rattle.wm_hull.proofs.Telling.{tells32}
use Rattle.wm_hull.proofs.failures.doubles_leave.Goals as goal

pub returns : goal.returns
returns c = λ z. tells32 _ c.args.x c.args.y z c.doubled.result (range_two (λ (a b : ℤ). pos 2 *ℤ (a *ℤ b)) c.args.x c.args.y z c.doubled.result c.doubled.ensures) c.leaves32.result c.leaves32.ensures
