use Rattle.std.proofs.Common.{◌≡◌, ◌++◌, drop}
use Rattle.wm_flow.specs.Seats.{ranks_from}
use Rattle.wm_seats.proofs.loops.ranks.Given as goal

abbrev pub invariant-loop-it : goal.invariant-loop-it
invariant-loop-it l = l.list ++ ranks_from l.before l.following (drop l.it-index l.loops) ≡ ranks_from 0 0 l.loops
