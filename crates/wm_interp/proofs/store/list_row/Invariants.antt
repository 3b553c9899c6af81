use Rattle.std.proofs.Common.{◌≡◌, map, take, Some}
use Rattle.wm_interp.proofs.store.list_row.Given as goal

abbrev pub invariant-loop-number : goal.invariant-loop-number
invariant-loop-number l = l.row.items ≡ map Some (take l.number-index l.numbers)
