use Rattle.std.proofs.Common.{◌≡◌, ◌++◌, drop}
use Rattle.wm_flow.specs.Statements.{sum_places}
use Rattle.wm_control.proofs.loops.push_places.Given as goal

abbrev pub invariant-loop-sum : goal.invariant-loop-sum
invariant-loop-sum l = l.list ++ sum_places l.variable (drop l.sum-index l.sums) ≡ l.initial.list ++ sum_places l.first l.sums
