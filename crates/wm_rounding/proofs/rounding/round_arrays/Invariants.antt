use Rattle.std.proofs.Common.{◌≡◌}
use Rattle.wm_rounding.specs.Cuts.{HasCells}
use Rattle.wm_rounding.proofs.rounding.round_arrays.Given as goal

abbrev pub invariant-loop-a : goal.invariant-loop-a
invariant-loop-a g l = record {
  shape : g.D.Domain.shape_of l.state ≡ g.D.Domain.shape_of l.fn.state;
  cells : HasCells l.grid (g.D.Domain.holds l.held) (g.D.Domain.holds l.state) (g.D.Domain.shape_of l.fn.state) l.a l.count;
}
