use Rattle.std.proofs.Common.{Some, sym, subst}
use Rattle.wm_domain.specs.States.{IsLeast}
use Rattle.wm_assign.specs.Giving.{Sets}
use Rattle.wm_assign.specs.Allowing.{Allowed}
use Rattle.wm_assign.specs.declared.values.Value.{Value}
use Rattle.wm_assign.proofs.values.set_some.Goals as goal

pub returns-in_ok-state-in-Any-clause-least : goal.returns-in_ok-state-in-Any-clause-least
returns-in_ok-state-in-Any-clause-least g c =
    subst (λ (o : Value). IsLeast g.D.Domain.holds g.D.Domain.shape_of c.in_ok-state-in-Any.state (Sets c.args.way.now.source.now c.args.way.now.target.now (g.D.Domain.holds c.args.at.now) c.args.v (Allowed (Some o))))
    (sym c.in-Any.is) c.in_ok-state-in-Any.ensures.least

pub returns-in_ok-state-in-Near-clause-least : goal.returns-in_ok-state-in-Near-clause-least
returns-in_ok-state-in-Near-clause-least g c =
    subst (λ (o : Value). IsLeast g.D.Domain.holds g.D.Domain.shape_of c.in_ok-state-in-Near.state (Sets c.args.way.now.source.now c.args.way.now.target.now (g.D.Domain.holds c.args.at.now) c.args.v (Allowed (Some o))))
    (sym c.in-Near.is) c.in_ok-state-in-Near.ensures.least
