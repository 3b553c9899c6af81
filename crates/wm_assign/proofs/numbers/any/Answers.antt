use Rattle.std.proofs.Common.{subst, ◌∙◌}
use Rattle.wm_domain.specs.declared.shape.Shape.{Shape}
use Rattle.wm_domain.specs.States.{InShape}
use Rattle.wm_assign.proofs.Setting.{keeps_any}
use Rattle.wm_assign.proofs.Leasts.{any_least}
use Rattle.wm_assign.proofs.numbers.any.Goals as goal

pub returns-clause-sound : goal.returns-clause-sound
returns-clause-sound g c =
    let way = c.args.way.now in
    keeps_any g.D.Domain.holds g.D.Domain.shape_of c.in_ok-state.state c.assign_range.new.self way.source.now way.target.now (g.D.Domain.holds c.args.at.now) c.args.v c.args.r c.requires.way
    (λ x h. subst (λ (sh : Shape). InShape sh x) c.requires.shape (g.met.D.Domain.inside c.args.at.now x h))
    c.requires.inside c.in_ok-state.ensures.shape (c.assign_range.ensures.shape ∙ c.in_ok-state.ensures.shape) c.in_ok-state.ensures.sound c.assign_range.ensures.sound

pub returns-clause-least : goal.returns-clause-least
returns-clause-least g c =
    let way = c.args.way.now in
    any_least g.row.D.Denot g.D.Domain.PAIRS g.D.Domain.holds g.D.Domain.shape_of (record { inside = g.met.D.Domain.inside; closed = g.met.D.Domain.closed; cuts = g.met.D.Domain.cuts }) way.source.now way.target.now c.requires.way c.args.at.now c.in_ok-state.state c.assign_range.new.self
    c.requires.shape (c.assign_range.ensures.shape ∙ c.in_ok-state.ensures.shape) c.in_ok-state.ensures.shape c.in_ok-state.ensures.sound c.in_ok-state.ensures.least c.args.v c.args.r c.assign_range.ensures.least
