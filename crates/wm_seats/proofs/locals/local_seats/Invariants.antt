use Rattle.std.proofs.Common.{◌≡◌, ◌++◌, drop}
use Rattle.wm_flow.specs.Seats.{local_seats_from, no_local_counts}
use Rattle.wm_seats.proofs.locals.local_seats.Given as goal

abbrev pub invariant-loop-local : goal.invariant-loop-local
invariant-loop-local l = l.list ++ local_seats_from l.counts (drop l.local-index l.locals) ≡ local_seats_from no_local_counts l.locals
