use Rattle.std.proofs.Common.{◌≡◌, ◌++◌, drop}
use Rattle.wm_grid.specs.Given.{near_functions}
use Rattle.wm_grid.proofs.given.push_functions.Given as goal

abbrev pub invariant-loop-function : goal.invariant-loop-function
invariant-loop-function l = l.numbers.items ++ near_functions l.steps (drop l.function-index l.functions) ≡ l.fn.numbers.items ++ near_functions l.steps l.functions
