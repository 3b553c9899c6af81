use Rattle.std.proofs.Common.{◌≡◌, ◌++◌, drop}
use Rattle.wm_program.specs.Runs.{fresh_cells}
use Rattle.wm_interp.proofs.calls.fresh.Given as goal

abbrev pub invariant-loop-k : goal.invariant-loop-k
invariant-loop-k l = l.store ++ fresh_cells (drop l.k l.locals) (drop l.k l.args) ≡ fresh_cells l.locals l.args
