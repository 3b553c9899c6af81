use Rattle.std.proofs.Common.{ℤ, pos, ◌-ℤ◌, ◌*ℤ◌}
use Rattle.wm_numbers.specs.Clamp.{clamp32}
use Rattle.wm_hull.proofs.Rising.{clamp32_rises}
use Rattle.wm_hull.proofs.Spans.{range_step}
use Rattle.wm_hull.proofs.Failing.{tells_raised}
use Rattle.wm_hull.proofs.failures.rounded_difference_fails.Goals as goal

pub returns : goal.returns
returns c =
    let sum : ℤ → ℤ → ℤ → ℤ = λ a b d. a -ℤ clamp32 (pos 2 *ℤ (b *ℤ d)) in
    tells_raised (λ a b d. clamp32 (sum a b d)) c.args.x c.args.y c.args.z c.clamped32.result
    (range_step sum c.args.x c.args.y c.args.z c.multiplied_from.result clamp32 c.clamped32.result clamp32_rises c.multiplied_from.ensures c.clamped32.ensures.low c.clamped32.ensures.high)
    c.rounding_leaves.result c.rounding_leaves.ensures
