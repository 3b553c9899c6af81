use Rattle.std.proofs.Common.{◌≡◌}
use Rattle.wm_fix.proofs.slim.set_ranges.Given as goal

abbrev pub invariant-loop-rank : goal.invariant-loop-rank
invariant-loop-rank g l = record {
  shape : g.D.Domain.shape_of l.state ≡ l.shape;
}
