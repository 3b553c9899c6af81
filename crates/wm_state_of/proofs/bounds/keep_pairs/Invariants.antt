use Rattle.std.proofs.Common.{◌≡◌, drop}
use Rattle.wm_domain.specs.Points.{Point}
use Rattle.wm_state_of.specs.Meeting.{PairsMet}
use Rattle.wm_state_of.proofs.bounds.keep_pairs.Given as goal

abbrev pub invariant-loop-pair : goal.invariant-loop-pair
invariant-loop-pair g l = record {
  shape : g.D.Domain.shape_of l.state ≡ g.D.Domain.shape_of l.fn.state;
  fewer : (p : Point) → g.D.Domain.holds l.state p → g.D.Domain.holds l.fn.state p;
  meets : (p : Point) → g.D.Domain.holds l.state p → PairsMet (drop l.pair-index l.pairs) p → PairsMet l.pairs p;
  kept : (p : Point) → g.D.Domain.holds l.fn.state p → PairsMet l.pairs p → g.D.Domain.holds l.state p × PairsMet (drop l.pair-index l.pairs) p;
}
