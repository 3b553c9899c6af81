use Rattle.std.proofs.Common.{◌*ℤ◌}
use Rattle.wm_hull.proofs.Spans.{range_last_two, range_minus}
use Rattle.wm_hull.proofs.Telling.{tells32}
use Rattle.wm_hull.proofs.failures.products_taken_leave.Goals as goal

pub returns : goal.returns
returns c =
    tells32 _ c.args.x c.args.y c.args.z c.sub.result
    (range_minus ◌*ℤ◌ c.args.x c.args.y c.args.z c.products.result c.sub.result
    (range_last_two ◌*ℤ◌ c.args.x c.args.y c.args.z c.products.result c.products.ensures.least) c.sub.ensures.low c.sub.ensures.high)
    c.leaves32.result c.leaves32.ensures
