use Rattle.std.proofs.Common.{◌≡◌}
use Rattle.wm_enumerate.proofs.sample.draw_octagon.Given as goal

abbrev pub invariant-loop : goal.invariant-loop
invariant-loop l = l.octagon.variables ≡ l.variables
