use Rattle.wm_gaps.specs.First.{IsRowsLine, AreHeld}
use Rattle.wm_gaps.proofs.order.pairs_passed.Given as goal

abbrev pub invariant-loop-first : goal.invariant-loop-first
invariant-loop-first g l = AreHeld (IsRowsLine l.first l.count) (g.D.Domain.holds l.have) (g.D.Domain.holds l.allowed)
