use Rattle.std.proofs.Common.{subst}
use Rattle.wm_domain.specs.States.{InShape}
use Rattle.wm_domain.specs.declared.shape.Shape.{Shape}
use Rattle.wm_rounding.proofs.Closing.{holds_old, on_grid, least}
use Rattle.wm_rounding.proofs.rounding.rounded.Goals as goal

pub returns-clause-holds : goal.returns-clause-holds
returns-clause-holds g c =
    holds_old c.args.grid.now g.D.Domain.PAIRS c.args.shape.now (g.D.Domain.holds c.args.held.now) (g.D.Domain.holds c.round_all.new.state) c.in_ok-round_all.ensures.rounded
    (λ p h. subst (λ (s : Shape). InShape s p) c.requires.shape (g.met.D.Domain.inside c.args.held.now p h))

pub returns-clause-on_grid : goal.returns-clause-on_grid
returns-clause-on_grid g c = on_grid c.args.grid.now g.D.Domain.PAIRS c.args.shape.now (g.D.Domain.holds c.args.held.now) (g.D.Domain.holds c.round_all.new.state) c.in_ok-round_all.ensures.rounded

pub returns-clause-least : goal.returns-clause-least
returns-clause-least g c = λ t e on h. least c.args.grid.now g.D.Domain.PAIRS c.args.shape.now (g.D.Domain.holds c.args.held.now) (g.D.Domain.holds c.round_all.new.state) c.in_ok-round_all.ensures.rounded (g.D.Domain.holds t) on h
