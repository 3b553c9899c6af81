use Rattle.std.proofs.Common.{◌≡◌, drop}
use Rattle.wm_flow.specs.Seats.{counts_from, no_counts}
use Rattle.wm_seats.proofs.objects.object_counts.Given as goal

abbrev pub invariant-loop-object : goal.invariant-loop-object
invariant-loop-object l = counts_from l.counts (drop l.object-index l.objects) ≡ counts_from no_counts l.objects
