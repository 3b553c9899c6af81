use Rattle.std.proofs.Common.{◌≡◌, drop}
use Rattle.wm_domain.specs.Points.{Point}
use Rattle.wm_state_of.specs.Meeting.{BoundsMet}
use Rattle.wm_state_of.proofs.bounds.keep_bounds.Given as goal

abbrev pub invariant-loop-ends : goal.invariant-loop-ends
invariant-loop-ends g l = record {
  at : l.v ≡ l.ends-index;
  shape : g.D.Domain.shape_of l.state ≡ g.D.Domain.shape_of l.fn.state;
  fewer : (p : Point) → g.D.Domain.holds l.state p → g.D.Domain.holds l.fn.state p;
  meets : (p : Point) → g.D.Domain.holds l.state p → BoundsMet l.v (drop l.ends-index l.bounds) p → BoundsMet 0 l.bounds p;
  kept : (p : Point) → g.D.Domain.holds l.fn.state p → BoundsMet 0 l.bounds p → g.D.Domain.holds l.state p × BoundsMet l.v (drop l.ends-index l.bounds) p;
}
