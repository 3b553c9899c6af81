use Rattle.std.proofs.Common.{Option, sym, subst}
use Rattle.wm_domain.specs.States.{IsLeast}
use Rattle.wm_assign.specs.Giving.{Sets}
use Rattle.wm_assign.specs.Allowing.{Allowed}
use Rattle.wm_assign.specs.declared.values.Value.{Value}
use Rattle.wm_assign.proofs.values.set.Goals as goal

pub returns-in_ok-state-in-Some-clause-least : goal.returns-in_ok-state-in-Some-clause-least
returns-in_ok-state-in-Some-clause-least g c =
    subst (λ (o : Option Value). IsLeast g.D.Domain.holds g.D.Domain.shape_of c.in_ok-state-in-Some.state (Sets c.args.way.now.source.now c.args.way.now.target.now (g.D.Domain.holds c.args.at.now) c.args.v (Allowed o)))
    (sym c.in-Some.is) c.in_ok-state-in-Some.ensures.least
