use Rattle.std.proofs.Common.{◌≡◌, drop}
use Rattle.wm_flow.specs.Seats.{local_counts_from, no_local_counts}
use Rattle.wm_seats.proofs.locals.local_counts.Given as goal

abbrev pub invariant-loop-local : goal.invariant-loop-local
invariant-loop-local l = local_counts_from l.counts (drop l.local-index l.locals) ≡ local_counts_from no_local_counts l.locals
