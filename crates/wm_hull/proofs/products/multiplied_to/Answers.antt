use Rattle.std.proofs.Common.{◌*ℤ◌, pos}
use Rattle.wm_numbers.specs.Clamp.{clamp32}
use Rattle.wm_hull.proofs.Rising.{clamp32_rises}
use Rattle.wm_hull.proofs.Spans.{range_last_two, range_step, range_plus}
use Rattle.wm_hull.proofs.products.multiplied_to.Goals as goal

pub returns : goal.returns
returns c =
    let twice = range_last_two (λ a b. pos 2 *ℤ (a *ℤ b)) c.args.x c.args.y c.args.z c.doubled.result c.doubled.ensures in
    let clamped = range_step (λ a b c. pos 2 *ℤ (b *ℤ c)) c.args.x c.args.y c.args.z c.doubled.result clamp32 c.clamped32.result clamp32_rises twice c.clamped32.ensures.low c.clamped32.ensures.high in
    range_plus (λ b c. clamp32 (pos 2 *ℤ (b *ℤ c))) c.args.x c.args.y c.args.z c.clamped32.result c.add.result clamped c.add.ensures.low c.add.ensures.high
