use Rattle.std.proofs.Common.{subst, ◌∙◌}
use Rattle.wm_domain.specs.declared.shape.Shape.{Shape}
use Rattle.wm_domain.specs.States.{InShape}
use Rattle.wm_celled.proofs.Celling.{keeps_set, set_least}
use Rattle.wm_celled.proofs.edges.array_set.Goals as goal

pub returns-clause-sound : goal.returns-clause-sound
returns-clause-sound g c =
    let way = c.args.way.now in
    keeps_set g.D.Domain.holds g.D.Domain.shape_of c.in_ok-state.state c.set_array.new.self way.source.now way.target.now (g.D.Domain.holds c.args.at.now) c.args.array c.args.summary c.requires.way
    (λ x h. subst (λ (sh : Shape). InShape sh x) c.requires.shape (g.met.D.Domain.inside c.args.at.now x h))
    c.requires.inside c.in_ok-state.ensures.shape (c.set_array.ensures.shape ∙ c.in_ok-state.ensures.shape) c.in_ok-state.ensures.sound c.set_array.ensures.sound

pub returns-clause-least : goal.returns-clause-least
returns-clause-least g c =
    let way = c.args.way.now in
    set_least g.row.D.Denot g.D.Domain.PAIRS g.D.Domain.holds g.D.Domain.shape_of (record { inside = g.met.D.Domain.inside; closed = g.met.D.Domain.closed; cuts = g.met.D.Domain.cuts }) way.source.now way.target.now c.requires.way c.args.at.now c.in_ok-state.state c.set_array.new.self
    c.requires.shape c.in_ok-state.ensures.shape c.in_ok-state.ensures.sound c.in_ok-state.ensures.least c.args.array c.args.summary c.set_array.ensures.least
