use Rattle.std.proofs.Common.{◌≡◌, ◌++◌, drop}
use Rattle.wm_grid.specs.Given.{near_each}
use Rattle.wm_grid.proofs.given.push_numbers.Given as goal

abbrev pub invariant-loop-number : goal.invariant-loop-number
invariant-loop-number l = l.numbers.items ++ near_each l.steps (drop l.number-index l.given) ≡ l.fn.numbers.items ++ near_each l.steps l.given
