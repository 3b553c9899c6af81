use Rattle.std.proofs.Common.{◌≡◌, drop}
use Rattle.wm_grid.specs.Given.{least_from}
use Rattle.wm_grid.proofs.given.least_from.Given as goal

abbrev pub invariant-loop-number : goal.invariant-loop-number
invariant-loop-number l = least_from l.least (drop l.number-index l.numbers) ≡ least_from l.first l.numbers
