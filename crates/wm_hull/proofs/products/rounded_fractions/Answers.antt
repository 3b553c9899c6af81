use Rattle.std.proofs.Common.{◌*ℤ◌, ◌+ℤ◌, pos}
use Rattle.wm_numbers.specs.Floor.{floor_shift}
use Rattle.wm_hull.proofs.Rising.{floor_rises, add_rises}
use Rattle.wm_hull.proofs.Spans.{on_step}
use Rattle.wm_hull.proofs.products.rounded_fractions.Goals as goal

pub returns : goal.returns
returns c =
    let sums = on_step ◌*ℤ◌ c.args.x c.args.y c.products.result c.raised.result (λ v. v +ℤ pos 16384) (add_rises (pos 16384)) c.products.ensures.least c.raised.ensures.low c.raised.ensures.high in
    on_step (λ a b. (a *ℤ b) +ℤ pos 16384) c.args.x c.args.y c.raised.result c.floored.result (λ v. floor_shift v 15) (floor_rises 15) sums c.floored.ensures.low c.floored.ensures.high
