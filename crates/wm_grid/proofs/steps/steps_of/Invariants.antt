use Rattle.std.proofs.Common.{◌≡◌, drop, []}
use Rattle.wm_grid.specs.Steps.{steps_from}
use Rattle.wm_grid.proofs.steps.steps_of.Given as goal

abbrev pub invariant-loop-info : goal.invariant-loop-info
invariant-loop-info l = steps_from l.steps.items (drop l.info-index l.loops) ≡ steps_from [] l.loops
