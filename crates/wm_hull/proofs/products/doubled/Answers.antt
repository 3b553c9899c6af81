use Rattle.std.proofs.Common.{◌*ℤ◌, ◌∙◌, pos}
use Rattle.std.proofs.Math.IntN.{*ℤ_comm}
use Rattle.wm_hull.proofs.Rising.{times_right_rises}
use Rattle.wm_hull.proofs.Spans.{on_step}
use Rattle.wm_hull.proofs.products.doubled.Goals as goal

pub returns : goal.returns
returns c = on_step ◌*ℤ◌ c.args.x c.args.y c.products.result c.scaled.result (λ v. pos 2 *ℤ v) (times_right_rises 2) c.products.ensures.least
    (c.scaled.ensures.low ∙ *ℤ_comm c.products.result.low (pos 2)) (c.scaled.ensures.high ∙ *ℤ_comm c.products.result.high (pos 2))
