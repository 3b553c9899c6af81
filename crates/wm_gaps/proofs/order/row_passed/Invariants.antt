use Rattle.wm_gaps.specs.First.{IsRowLine, AreHeld}
use Rattle.wm_gaps.proofs.order.row_passed.Given as goal

abbrev pub invariant-loop-second : goal.invariant-loop-second
invariant-loop-second g l = AreHeld (IsRowLine l.first l.second) (g.D.Domain.holds l.have) (g.D.Domain.holds l.allowed)
