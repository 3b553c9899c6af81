use Rattle.std.proofs.Common.{◌*ℤ◌}
use Rattle.wm_hull.proofs.Spans.{range_two}
use Rattle.wm_hull.proofs.Telling.{tells32}
use Rattle.wm_failing.proofs.products.products_leave.Goals as goal

pub returns : goal.returns
returns c = λ z. tells32 _ c.args.x c.args.y z c.mul.result (range_two ◌*ℤ◌ c.args.x c.args.y z c.mul.result c.mul.ensures.least) c.leaves.result c.leaves.ensures
