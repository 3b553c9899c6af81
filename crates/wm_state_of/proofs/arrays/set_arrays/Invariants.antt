use Rattle.std.proofs.Common.{◌≡◌}
use Rattle.wm_domain.specs.Points.{Point}
use Rattle.wm_domain.specs.States.{InShape}
use Rattle.wm_state_of.specs.Setting.{ArraysSet}
use Rattle.wm_state_of.proofs.arrays.set_arrays.Given as goal

abbrev pub invariant-loop-place : goal.invariant-loop-place
invariant-loop-place g l = record {
  shape : g.D.Domain.shape_of l.state ≡ g.D.Domain.shape_of l.fn.state;
  made : (p : Point) → g.D.Domain.holds l.state p → ArraysSet (g.D.Domain.holds l.fn.state) l.place l.arrays p;
  kept : (p : Point) → InShape (g.D.Domain.shape_of l.fn.state) p → ArraysSet (g.D.Domain.holds l.fn.state) l.place l.arrays p → g.D.Domain.holds l.state p;
}
