use Rattle.wm_rounding.specs.Bounding.{IsBelow}
use Rattle.wm_domain.specs.Forms.{form_value}
use Rattle.wm_rounding.specs.Cuts.{Cut}
use Rattle.wm_rounding.specs.Rounding.{MeetsForm}
use Rattle.wm_rounding.proofs.Cutting.{on_ok_map}
use Rattle.wm_rounding.proofs.Meeting.{form_cut}
use Rattle.wm_rounding.proofs.lines.round_form.Goals as goal

pub returns-in_ok-keep_above-in-Some-clause-cut : goal.returns-in_ok-keep_above-in-Some-clause-cut
returns-in_ok-keep_above-in-Some-clause-cut g c =
    let Old = g.D.Domain.holds c.args.state.now in
    let Middle = g.D.Domain.holds c.keep_above.new.state in
    let New = g.D.Domain.holds c.keep_below.new.state in
    on_ok_map c.keep_below.result (Cut Middle New (λ p. IsBelow c.around-ends.result.high (form_value p.values c.args.f.now))) (Cut Old New (MeetsForm c.args.grid.now (g.D.Domain.holds c.args.held.now) c.args.f.now))
    (λ k. form_cut c.args.grid.now (g.D.Domain.holds c.args.held.now) c.args.f.now Old Middle New c.in-Some.range c.around-ends.result c.in-Some.ensures.exact c.around-ends.ensures c.in_ok-keep_above-in-Some.ensures.cut k) c.keep_below.ensures.cut
