use Rattle.std.proofs.Common.{◌≡◌}
use Rattle.wm_fix.proofs.slim.set_all_cells.Given as goal

abbrev pub invariant-loop-array : goal.invariant-loop-array
invariant-loop-array g l = record {
  shape : g.D.Domain.shape_of l.state ≡ l.shape;
}
