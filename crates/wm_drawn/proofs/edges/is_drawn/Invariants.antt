use Rattle.std.proofs.Common.{ℕ, ◌<◌}
use Rattle.wm_drawn.specs.Drawn.{IsDrawn}
use Rattle.wm_drawn.proofs.edges.is_drawn.Given as goal

abbrev pub invariant-loop-number : goal.invariant-loop-number
invariant-loop-number l = (k : ℕ) → k < l.number → IsDrawn l.graph k
