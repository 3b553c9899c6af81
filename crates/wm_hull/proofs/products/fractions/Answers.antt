use Rattle.std.proofs.Common.{◌*ℤ◌}
use Rattle.wm_numbers.specs.Floor.{floor_shift}
use Rattle.wm_hull.proofs.Rising.{floor_rises}
use Rattle.wm_hull.proofs.Spans.{on_step}
use Rattle.wm_hull.proofs.products.fractions.Goals as goal

pub returns : goal.returns
returns c = on_step ◌*ℤ◌ c.args.x c.args.y c.products.result c.floored.result (λ v. floor_shift v 15) (floor_rises 15) c.products.ensures.least c.floored.ensures.low c.floored.ensures.high
