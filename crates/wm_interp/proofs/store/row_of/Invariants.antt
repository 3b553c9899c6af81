use Rattle.std.proofs.Common.{◌≡◌, replicate}
use Rattle.wm_interp.proofs.store.row_of.Given as goal

abbrev pub invariant-loop : goal.invariant-loop
invariant-loop l = l.row.items ≡ replicate l.counter l.cell
