use Rattle.std.proofs.Common.{◌≡◌, ◌++◌, drop}
use Rattle.wm_flow.specs.Seats.{seats_from, no_counts}
use Rattle.wm_seats.proofs.objects.object_seats.Given as goal

abbrev pub invariant-loop-object : goal.invariant-loop-object
invariant-loop-object l = l.list ++ seats_from l.counts (drop l.object-index l.objects) ≡ seats_from no_counts l.objects
