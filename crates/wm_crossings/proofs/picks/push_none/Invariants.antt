use Rattle.std.proofs.Common.{◌≡◌, ◌++◌}
use Rattle.wm_flow.specs.Calls.{none_for}
use Rattle.wm_crossings.proofs.picks.push_none.Given as goal

abbrev pub invariant-loop-k : goal.invariant-loop-k
invariant-loop-k l = l.picks ≡ l.initial.picks ++ none_for l.k
