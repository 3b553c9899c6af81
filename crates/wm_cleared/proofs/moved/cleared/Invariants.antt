use Rattle.std.proofs.Common.{◌≡◌, [], take}
use Rattle.wm_domain.specs.States.{Keeps, IsLeast}
use Rattle.wm_carry.specs.Following.{Moved}
use Rattle.wm_cleared.proofs.moved.cleared.Given as goal

abbrev pub invariant-loop-k : goal.invariant-loop-k
invariant-loop-k g l = record {
  shape : g.D.Domain.shape_of l.state ≡ l.way.target.now;
  sound : Keeps g.D.Domain.holds g.D.Domain.shape_of l.state (Moved l.way.source.now l.way.target.now (g.D.Domain.holds l.at) (take l.k l.variables) []);
  least : IsLeast g.D.Domain.holds g.D.Domain.shape_of l.state (Moved l.way.source.now l.way.target.now (g.D.Domain.holds l.at) (take l.k l.variables) []);
}
