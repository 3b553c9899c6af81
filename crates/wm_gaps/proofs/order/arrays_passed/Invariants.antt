use Rattle.wm_gaps.specs.First.{IsArrayLine, AreHeld}
use Rattle.wm_gaps.proofs.order.arrays_passed.Given as goal

abbrev pub invariant-loop-a : goal.invariant-loop-a
invariant-loop-a g l = AreHeld (IsArrayLine l.a) (g.D.Domain.holds l.have) (g.D.Domain.holds l.allowed)
