use Rattle.std.proofs.Common.{◌≡◌, ◌++◌, drop}
use Rattle.wm_flow.specs.Calls.{arguments_from}
use Rattle.wm_crossings.proofs.arguments.arguments_from.Given as goal

abbrev pub invariant-loop-seat : goal.invariant-loop-seat
invariant-loop-seat l = l.list ++ arguments_from l.bases (drop l.seat-index l.seats) l.rest l.temporaries ≡ arguments_from l.bases l.seats l.values 0
