use Rattle.std.proofs.Common.{◌≡◌, ◌++◌, drop}
use Rattle.wm_sketch.proofs.sketch.copy_of.Given as goal

abbrev pub invariant-loop-sum : goal.invariant-loop-sum
invariant-loop-sum l = l.list ++ drop l.sum-index l.sums ≡ l.sums
