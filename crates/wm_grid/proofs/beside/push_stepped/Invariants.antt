use Rattle.std.proofs.Common.{◌≡◌, ◌++◌, drop}
use Rattle.wm_grid.specs.Beside.{stepped}
use Rattle.wm_grid.proofs.beside.push_stepped.Given as goal

abbrev pub invariant-loop-step : goal.invariant-loop-step
invariant-loop-step l = l.numbers.items ++ stepped l.c (drop l.step-index l.steps) ≡ l.fn.numbers.items ++ stepped l.c l.steps
