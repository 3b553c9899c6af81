use Rattle.std.proofs.Common.{◌≡◌, ◌++◌, drop}
use Rattle.wm_flow.specs.Places.{sums_at}
use Rattle.wm_seats.proofs.rows.sums_at.Given as goal

abbrev pub invariant-loop-sum : goal.invariant-loop-sum
invariant-loop-sum l = l.list ++ sums_at (drop l.sum-index l.sums) l.head ≡ sums_at l.sums l.head
