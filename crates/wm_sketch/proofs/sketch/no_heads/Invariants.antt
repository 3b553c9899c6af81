use Rattle.std.proofs.Common.{◌≡◌}
use Rattle.std.specs.Prelude.{replicate}
use Rattle.wm_flow.specs.Graphs.{no_head}
use Rattle.wm_sketch.proofs.sketch.no_heads.Given as goal

abbrev pub invariant-loop-k : goal.invariant-loop-k
invariant-loop-k l = l.heads.items ≡ replicate l.k no_head
