use Rattle.std.proofs.Common.{◌≡◌, ◌++◌, drop, map}
use Rattle.wm_calls.specs.Rounds.{all_marked}
use Rattle.wm_calls.proofs.rounds.ends_round.Given as goal

abbrev pub invariant-loop-places : goal.invariant-loop-places
invariant-loop-places l = l.next.items ++ map (all_marked l.marks) (drop l.places-index l.calls) ≡ map (all_marked l.marks) l.calls
