use Rattle.std.proofs.Common.{neg_ℤ}
use Rattle.wm_numbers.proofs.Order.{neg_mono}
use Rattle.wm_hull.proofs.Spans.{range_turned}
use Rattle.wm_hull.proofs.Telling.{tells32}
use Rattle.wm_hull.proofs.failures.opposites_leave32.Goals as goal

pub returns : goal.returns
returns c = λ y z. tells32 _ c.args.x y z c.negated.result (range_turned neg_ℤ c.args.x y z c.negated.result (λ a b h. neg_mono h) c.negated.ensures.low c.negated.ensures.high) c.leaves32.result c.leaves32.ensures
