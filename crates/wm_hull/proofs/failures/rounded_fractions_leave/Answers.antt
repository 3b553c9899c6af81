use Rattle.std.proofs.Common.{ℤ, pos, ◌+ℤ◌, ◌*ℤ◌}
use Rattle.wm_numbers.specs.Floor.{floor_shift}
use Rattle.wm_hull.proofs.Spans.{range_two}
use Rattle.wm_hull.proofs.Telling.{tells16}
use Rattle.wm_hull.proofs.failures.rounded_fractions_leave.Goals as goal

pub returns : goal.returns
returns c = λ z. tells16 _ c.args.x c.args.y z c.rounded_fractions.result (range_two (λ (a b : ℤ). floor_shift ((a *ℤ b) +ℤ pos 16384) 15) c.args.x c.args.y z c.rounded_fractions.result c.rounded_fractions.ensures) c.leaves16.result c.leaves16.ensures
