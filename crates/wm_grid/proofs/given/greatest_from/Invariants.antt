use Rattle.std.proofs.Common.{◌≡◌, drop}
use Rattle.wm_grid.specs.Given.{greatest_from}
use Rattle.wm_grid.proofs.given.greatest_from.Given as goal

abbrev pub invariant-loop-number : goal.invariant-loop-number
invariant-loop-number l = greatest_from l.greatest (drop l.number-index l.numbers) ≡ greatest_from l.first l.numbers
