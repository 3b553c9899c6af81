use Rattle.std.proofs.Common.{subst, ◌∙◌, w64, rules}
use Rattle.std.specs.Prelude.{FitsSigned}
use Rattle.std.proofs.lemmas.Int.{to_z-of_z}
use Rattle.wm_domain.specs.declared.shape.Shape.{Shape}
use Rattle.wm_domain.specs.States.{InShape}
use Rattle.wm_tested.specs.Likes.{Between}
use Rattle.wm_guarded.proofs.Going.{keeps_after, least_after, between_same}
use Rattle.wm_guarded.proofs.guards.tested.Goals as goal

pub returns-clause-sound : goal.returns-clause-sound
returns-clause-sound g c =
    let low_fits : FitsSigned w64 c.args.low = search rules in
    let high_fits : FitsSigned w64 c.args.high = search rules in
    let Has = g.D.Domain.holds c.args.at.now in
    let Copy = g.D.Domain.holds c.in_ok-state.state in
    keeps_after g.D.Domain.holds g.D.Domain.shape_of c.keep_between.new.state c.in_ok-moved.moved c.args.way.now.source.now c.args.way.now.target.now (Between Has c.args.f.now c.args.low c.args.high) (Between Copy c.args.f.now c.args.low c.args.high)
    (λ x h. subst (λ (sh : Shape). InShape sh x) c.requires.shape (g.met.D.Domain.inside c.args.at.now x h.point))
    (c.in_ok-keep_between.ensures.shape ∙ c.in_ok-state.ensures.shape ∙ c.requires.shape)
    (between_same Has Copy c.args.f.now c.args.low c.args.high c.in_ok-state.ensures.same)
    (simp to_z-of_z at c.in_ok-keep_between.ensures.sound) c.in_ok-moved.ensures.sound

pub returns-clause-least : goal.returns-clause-least
returns-clause-least g c =
    let low_fits : FitsSigned w64 c.args.low = search rules in
    let high_fits : FitsSigned w64 c.args.high = search rules in
    let Has = g.D.Domain.holds c.args.at.now in
    let Copy = g.D.Domain.holds c.in_ok-state.state in
    least_after g.row.D.Denot g.D.Domain.PAIRS g.D.Domain.holds g.D.Domain.shape_of (record { inside = g.met.D.Domain.inside; closed = g.met.D.Domain.closed; cuts = g.met.D.Domain.cuts })
    c.keep_between.new.state c.in_ok-moved.moved c.args.way.now.source.now c.args.way.now.target.now (Between Has c.args.f.now c.args.low c.args.high) (Between Copy c.args.f.now c.args.low c.args.high) c.requires.way
    (c.in_ok-keep_between.ensures.shape ∙ c.in_ok-state.ensures.shape ∙ c.requires.shape) c.in_ok-moved.ensures.shape
    (between_same Copy Has c.args.f.now c.args.low c.args.high (λ p. ((c.in_ok-state.ensures.same p).1, (c.in_ok-state.ensures.same p).0)))
    (simp to_z-of_z at c.in_ok-keep_between.ensures.sound) (simp to_z-of_z at c.in_ok-keep_between.ensures.least) c.in_ok-moved.ensures.least
