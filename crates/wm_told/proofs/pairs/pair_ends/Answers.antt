use Rattle.wm_told.specs.Tells.{pair_form}
use Rattle.wm_told.proofs.Pushed.{form_ends}
use Rattle.wm_told.proofs.pairs.pair_ends.Goals as goal

pub returns-in-Some : goal.returns-in-Some
returns-in-Some g c = record {
  exact = form_ends (g.D.Domain.holds c.args.state.now) c.in_ok-form.form (pair_form c.args.kind c.args.first c.args.second) c.in-Some.range c.ends_of.result c.in_ok-form.ensures.form c.in-Some.ensures.exact c.ends_of.ensures;
}
