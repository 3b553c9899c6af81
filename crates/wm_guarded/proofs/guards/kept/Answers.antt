use Rattle.std.proofs.Common.{subst, ◌∙◌}
use Rattle.wm_domain.specs.declared.shape.Shape.{Shape}
use Rattle.wm_domain.specs.States.{InShape}
use Rattle.wm_domain.specs.Changes.{Kept}
use Rattle.wm_guarded.proofs.Going.{keeps_after, least_after, kept_same}
use Rattle.wm_guarded.proofs.guards.kept.Goals as goal

pub returns-clause-sound : goal.returns-clause-sound
returns-clause-sound g c =
    let Has = g.D.Domain.holds c.args.at.now in
    let Copy = g.D.Domain.holds c.in_ok-state.state in
    keeps_after g.D.Domain.holds g.D.Domain.shape_of c.keep.new.self c.in_ok-moved.moved c.args.way.now.source.now c.args.way.now.target.now (Kept Has c.args.f.now c.args.r) (Kept Copy c.args.f.now c.args.r)
    (λ x h. subst (λ (sh : Shape). InShape sh x) c.requires.shape (g.met.D.Domain.inside c.args.at.now x h.point))
    (c.keep.ensures.shape ∙ c.in_ok-state.ensures.shape ∙ c.requires.shape)
    (kept_same Has Copy c.args.f.now c.args.r c.in_ok-state.ensures.same)
    c.keep.ensures.sound c.in_ok-moved.ensures.sound

pub returns-clause-least : goal.returns-clause-least
returns-clause-least g c =
    let Has = g.D.Domain.holds c.args.at.now in
    let Copy = g.D.Domain.holds c.in_ok-state.state in
    least_after g.row.D.Denot g.D.Domain.PAIRS g.D.Domain.holds g.D.Domain.shape_of (record { inside = g.met.D.Domain.inside; closed = g.met.D.Domain.closed; cuts = g.met.D.Domain.cuts })
    c.keep.new.self c.in_ok-moved.moved c.args.way.now.source.now c.args.way.now.target.now (Kept Has c.args.f.now c.args.r) (Kept Copy c.args.f.now c.args.r) c.requires.way
    (c.keep.ensures.shape ∙ c.in_ok-state.ensures.shape ∙ c.requires.shape) c.in_ok-moved.ensures.shape
    (kept_same Copy Has c.args.f.now c.args.r (λ p. ((c.in_ok-state.ensures.same p).1, (c.in_ok-state.ensures.same p).0)))
    c.keep.ensures.sound c.keep.ensures.least c.in_ok-moved.ensures.least
