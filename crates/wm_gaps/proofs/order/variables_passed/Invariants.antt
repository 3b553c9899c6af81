use Rattle.wm_gaps.specs.First.{IsVariableLine, AreHeld}
use Rattle.wm_gaps.proofs.order.variables_passed.Given as goal

abbrev pub invariant-loop-v : goal.invariant-loop-v
invariant-loop-v g l = AreHeld (IsVariableLine l.v) (g.D.Domain.holds l.have) (g.D.Domain.holds l.allowed)
