use Rattle.std.proofs.Common.{ℤ, pos, ◌-ℤ◌, ◌*ℤ◌, ◌||◌}
use Rattle.wm_numbers.specs.Clamp.{clamp32}
use Rattle.wm_ops.specs.Clamping.{leaves32}
use Rattle.wm_hull.proofs.Spans.{range_last_two}
use Rattle.wm_hull.proofs.Telling.{tells32, tells_either}
use Rattle.wm_hull.proofs.Failing.{told_by}
use Rattle.wm_hull.proofs.failures.difference_fails.Goals as goal

pub returns : goal.returns
returns c =
    let x = c.args.x in
    let y = c.args.y in
    let z = c.args.z in
    let double : ℤ → ℤ → ℤ → ℤ = λ a b d. pos 2 *ℤ (b *ℤ d) in
    let sum : ℤ → ℤ → ℤ → ℤ = λ a b d. a -ℤ clamp32 (pos 2 *ℤ (b *ℤ d)) in
    let first = tells32 double x y z c.doubled.result (range_last_two (λ (a b : ℤ). pos 2 *ℤ (a *ℤ b)) x y z c.doubled.result c.doubled.ensures) c.leaves32-doubles.result c.leaves32-doubles.ensures in
    let second = tells32 sum x y z c.multiplied_from.result c.multiplied_from.ensures c.leaves32-differences.result c.leaves32-differences.ensures in
    told_by (λ a b d. leaves32 (double a b d) || leaves32 (sum a b d)) x y z _ _ c.either.ensures
    (tells_either (λ a b d. leaves32 (double a b d)) (λ a b d. leaves32 (sum a b d)) x y z _ _ first second)
