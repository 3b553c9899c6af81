use Rattle.std.proofs.Common.{◌≡◌, ◌++◌, drop}
use Rattle.wm_grid.specs.Given.{near_ranges}
use Rattle.wm_grid.proofs.given.push_ranges.Given as goal

abbrev pub invariant-loop-input : goal.invariant-loop-input
invariant-loop-input l = l.numbers.items ++ near_ranges l.steps (drop l.input-index l.inputs) ≡ l.fn.numbers.items ++ near_ranges l.steps l.inputs
