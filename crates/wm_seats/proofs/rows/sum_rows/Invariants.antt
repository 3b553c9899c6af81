use Rattle.std.proofs.Common.{◌≡◌}
use Rattle.wm_flow.specs.Places.{sum_rows}
use Rattle.wm_seats.proofs.rows.sum_rows.Given as goal

abbrev pub invariant-loop-head : goal.invariant-loop-head
invariant-loop-head l = l.rows ≡ sum_rows l.head l.sums
