use Rattle.std.proofs.Common.{◌≡◌}
use Rattle.wm_domain.specs.States.{Keeps, IsLeast}
use Rattle.wm_cleared.proofs.Letting.{ZeroSo}
use Rattle.wm_cleared.proofs.counters.reset.Given as goal

abbrev pub invariant-loop-k : goal.invariant-loop-k
invariant-loop-k g l = record {
  shape : g.D.Domain.shape_of l.state ≡ l.way.target.now;
  sound : Keeps g.D.Domain.holds g.D.Domain.shape_of l.state (ZeroSo l.way.source.now l.way.target.now (g.D.Domain.holds l.at) l.counters l.k);
  least : IsLeast g.D.Domain.holds g.D.Domain.shape_of l.state (ZeroSo l.way.source.now l.way.target.now (g.D.Domain.holds l.at) l.counters l.k);
}
