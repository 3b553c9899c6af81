use Rattle.std.proofs.Common.{◌≡◌}
use Rattle.wm_filters.specs.Stays.{Stays}
use Rattle.wm_left.specs.Taking.{TakenFrom}
use Rattle.wm_left.proofs.pairs.take_pairs.Given as goal

abbrev pub invariant-loop-v : goal.invariant-loop-v
invariant-loop-v g l = record {
  shape : g.D.Domain.shape_of l.state ≡ g.D.Domain.shape_of l.fn.state;
  kept : Stays g.D.Domain.holds (g.D.Domain.shape_of l.fn.state) l.fn.state l.state (TakenFrom (g.D.Domain.holds l.there) l.picks);
}
