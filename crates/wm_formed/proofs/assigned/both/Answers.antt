use Rattle.std.proofs.Common.{◌≡◌, List, sym, subst}
use Rattle.wm_domain.specs.declared.shape.Shape.{Shape}
use Rattle.wm_domain.specs.declared.form.Term.{Term}
use Rattle.wm_domain.specs.Forms.{AreTerms}
use Rattle.wm_domain.specs.States.{count_of, InShape}
use Rattle.wm_assign.specs.Allowing.{Allowed}
use Rattle.wm_assign.specs.Giving.{IsGiven, IsGivenBy}
use Rattle.wm_assign.proofs.Setting.{keeps_more}
use Rattle.wm_assign.proofs.Leasts.{least_more}
use Rattle.wm_filters.proofs.Staying.{word_at}
use Rattle.wm_formed.proofs.assigned.both.Goals as goal

pub returns-clause-sound : goal.returns-clause-sound
returns-clause-sound g c =
    let s = c.args.way.now.source.now in
    let t = c.args.way.now.target.now in
    let Has = g.D.Domain.holds c.args.at.now in
    let terms = subst (λ (ts : List Term). AreTerms (count_of s) ts) c.requires.terms c.requires.form.terms in
    keeps_more g.D.Domain.holds g.D.Domain.shape_of c.in_ok-state.state s t Has c.args.v (Allowed c.in_ok-value.value) (IsGiven Has c.args.f.now)
    (λ was p h i m.
    let inside = subst (λ (x : Shape). InShape x was) c.requires.shape (g.met.D.Domain.inside c.args.at.now was h) in
    c.in_ok-value.ensures.allowed was (p.values c.args.v)
    (word_at s was c.args.t.variable c.requires.way.source_shape inside terms.0)
    (word_at s was c.args.u.variable c.requires.way.source_shape inside terms.1)
    (word_at t p c.args.v c.requires.way.target_shape (subst (λ (x : Shape). InShape x p) c.in_ok-state.ensures.shape i) c.requires.inside)
    (subst (λ (ts : List Term). IsGivenBy Has c.args.f.now ts was (p.values c.args.v)) c.requires.terms m))
    c.in_ok-state.ensures.sound

pub returns-clause-least : goal.returns-clause-least
returns-clause-least g c =
    let Has = g.D.Domain.holds c.args.at.now in
    least_more g.D.Domain.holds g.D.Domain.shape_of c.in_ok-state.state c.args.way.now.source.now c.args.way.now.target.now Has c.args.v (Allowed c.in_ok-value.value) (IsGiven Has c.args.f.now)
    (λ was p h i m. subst (λ (ts : List Term). IsGivenBy Has c.args.f.now ts was (p.values c.args.v)) (sym c.requires.terms) (c.in_ok-value.ensures.made was (p.values c.args.v) m))
    c.in_ok-state.ensures.least
