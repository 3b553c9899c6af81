use Rattle.std.proofs.Common.{◌≡◌, ◌++◌}
use Rattle.wm_grid.specs.Beside.{powers_to}
use Rattle.wm_grid.proofs.beside.push_powers.Given as goal

abbrev pub invariant-loop-k : goal.invariant-loop-k
invariant-loop-k l = l.numbers.items ≡ l.fn.numbers.items ++ powers_to l.k
