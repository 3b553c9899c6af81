use Rattle.std.proofs.Common.{◌≡◌, ◌++◌, drop, map}
use Rattle.wm_calls.specs.Rounds.{any_marked}
use Rattle.wm_calls.proofs.rounds.reach_round.Given as goal

abbrev pub invariant-loop-places : goal.invariant-loop-places
invariant-loop-places l = l.next.items ++ map (any_marked l.marks) (drop l.places-index l.calls) ≡ map (any_marked l.marks) l.calls
