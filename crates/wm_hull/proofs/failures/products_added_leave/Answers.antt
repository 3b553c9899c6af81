use Rattle.std.proofs.Common.{◌*ℤ◌}
use Rattle.wm_hull.proofs.Spans.{range_last_two, range_plus}
use Rattle.wm_hull.proofs.Telling.{tells32}
use Rattle.wm_hull.proofs.failures.products_added_leave.Goals as goal

pub returns : goal.returns
returns c =
    tells32 _ c.args.x c.args.y c.args.z c.add.result
    (range_plus ◌*ℤ◌ c.args.x c.args.y c.args.z c.products.result c.add.result
    (range_last_two ◌*ℤ◌ c.args.x c.args.y c.args.z c.products.result c.products.ensures.least) c.add.ensures.low c.add.ensures.high)
    c.leaves32.result c.leaves32.ensures
