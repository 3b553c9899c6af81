use Rattle.wm_told.specs.Tells.{AreRanges}
use Rattle.wm_told.proofs.ranges.ranges.Given as goal

abbrev pub invariant-loop-v : goal.invariant-loop-v
invariant-loop-v g l = AreRanges (g.D.Domain.holds l.state) l.v l.ranges
