use Rattle.std.proofs.Common.{◌-ℤ◌}
use Rattle.wm_hull.proofs.Spans.{range_two}
use Rattle.wm_hull.proofs.Telling.{tells32}
use Rattle.wm_hull.proofs.failures.differences_leave32.Goals as goal

pub returns : goal.returns
returns c = λ z. tells32 _ c.args.x c.args.y z c.sub.result (range_two ◌-ℤ◌ c.args.x c.args.y z c.sub.result c.sub.ensures.least) c.leaves32.result c.leaves32.ensures
