use Rattle.std.proofs.Common.{ℤ, ◌*ℤ◌}
use Rattle.wm_numbers.specs.Floor.{floor_shift}
use Rattle.wm_hull.proofs.Spans.{range_two}
use Rattle.wm_hull.proofs.Telling.{tells16}
use Rattle.wm_hull.proofs.failures.fractions_leave.Goals as goal

pub returns : goal.returns
returns c = λ z. tells16 _ c.args.x c.args.y z c.fractions.result (range_two (λ (a b : ℤ). floor_shift (a *ℤ b) 15) c.args.x c.args.y z c.fractions.result c.fractions.ensures) c.leaves16.result c.leaves16.ensures
