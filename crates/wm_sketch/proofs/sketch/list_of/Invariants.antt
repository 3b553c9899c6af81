use Rattle.std.proofs.Common.{◌≡◌, ◌++◌, drop}
use Rattle.wm_sketch.proofs.sketch.list_of.Given as goal

abbrev pub invariant-loop-head : goal.invariant-loop-head
invariant-loop-head l = l.list ++ drop l.head-index l.heads ≡ l.heads
