use Rattle.wm_told.specs.Tells.{AreArrays}
use Rattle.wm_told.proofs.cells.arrays.Given as goal

abbrev pub invariant-loop-a : goal.invariant-loop-a
invariant-loop-a g l = AreArrays (g.D.Domain.holds l.state) l.a l.arrays
