use Rattle.std.proofs.Common.{◌≡◌, ◌++◌, drop}
use Rattle.wm_grid.specs.Given.{near_locals}
use Rattle.wm_grid.proofs.given.push_locals.Given as goal

abbrev pub invariant-loop-local : goal.invariant-loop-local
invariant-loop-local l = l.numbers.items ++ near_locals l.steps (drop l.local-index l.locals) ≡ l.fn.numbers.items ++ near_locals l.steps l.locals
