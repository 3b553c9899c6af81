use Rattle.std.proofs.Common.{◌≡◌, ℤ, List, length, sym, ◌∙◌, subst}
use Rattle.wm_domain.specs.declared.form.Term.{Term}
use Rattle.wm_domain.specs.Points.{Point}
use Rattle.wm_domain.specs.Forms.{form_value}
use Rattle.wm_assign.specs.Giving.{IsGiven}
use Rattle.wm_assign.proofs.Leasts.{least_more}
use Rattle.wm_formed.proofs.Pairing.{given_none, given_one}
use Rattle.wm_formed.proofs.assigned.formed.Goals as goal

pub returns-in_ok-state-in-None-clause-least : goal.returns-in_ok-state-in-None-clause-least
returns-in_ok-state-in-None-clause-least g c =
    let Has = g.D.Domain.holds c.args.at.now in
    let none : length c.args.f.now.terms ≡ 0 = subst (λ (xs : List Term). length xs ≡ 0) c.items.ensures.items c.in-None.ensures.cases in
    least_more g.D.Domain.holds g.D.Domain.shape_of c.in_ok-state-in-None.state c.args.way.now.source.now c.args.way.now.target.now Has c.args.v
    (λ (was : Point) (z : ℤ). z ≡ form_value was.values c.args.f.now) (IsGiven Has c.args.f.now)
    (λ was p h i m. given_none Has c.args.f.now was (p.values c.args.v) none m) c.in_ok-state-in-None.ensures.least

pub returns-in_ok-state-in-None-split_first-clause-least : goal.returns-in_ok-state-in-None-split_first-clause-least
returns-in_ok-state-in-None-split_first-clause-least g c =
    let Has = g.D.Domain.holds c.args.at.now in
    least_more g.D.Domain.holds g.D.Domain.shape_of c.in_ok-state-in-None-split_first.state c.args.way.now.source.now c.args.way.now.target.now Has c.args.v
    (λ (was : Point) (z : ℤ). z ≡ form_value was.values c.args.f.now) (IsGiven Has c.args.f.now)
    (λ was p h i m. given_one Has c.args.f.now c.in-Some.t.now c.in-Some.rest.now was (p.values c.args.v) (sym c.items.ensures.items ∙ c.in-Some.ensures.cases.0) c.in-None-split_first.ensures.cases m) c.in_ok-state-in-None-split_first.ensures.least
