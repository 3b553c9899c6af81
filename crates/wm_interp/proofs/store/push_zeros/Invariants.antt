use Rattle.std.proofs.Common.{◌≡◌, ◌++◌, replicate, Some, pos}
use Rattle.wm_interp.proofs.store.push_zeros.Given as goal

abbrev pub invariant-loop : goal.invariant-loop
invariant-loop l = l.row.items ≡ l.fn.row.items ++ replicate l.counter (Some (pos 0))
