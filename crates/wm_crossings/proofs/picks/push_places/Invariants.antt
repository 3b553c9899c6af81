use Rattle.std.proofs.Common.{◌≡◌, ◌++◌}
use Rattle.wm_flow.specs.Calls.{places_from}
use Rattle.wm_crossings.proofs.picks.push_places.Given as goal

abbrev pub invariant-loop-k : goal.invariant-loop-k
invariant-loop-k l = l.picks ≡ l.initial.picks ++ places_from l.first l.k
