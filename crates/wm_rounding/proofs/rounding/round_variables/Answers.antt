use Rattle.std.proofs.Common.{◌∙◌}
use Rattle.wm_rounding.specs.Forms.{one_form}
use Rattle.wm_rounding.specs.Rounding.{MeetsForm}
use Rattle.wm_rounding.proofs.Cutting.{each_cut}
use Rattle.wm_rounding.proofs.rounding.round_variables.Goals as goal

pub loop-v-preserved : goal.loop-v-preserved
loop-v-preserved g c = record {
  shape = c.in_ok-round_variable.ensures.shape ∙ c.loop-v.invariant.shape;
  cut = each_cut (g.D.Domain.holds c.args.state.now) (g.D.Domain.holds c.loop-v.state) (g.D.Domain.holds c.round_variable.new.state) (λ v p. MeetsForm c.args.grid.now (g.D.Domain.holds c.args.held.now) (one_form v) p) c.loop-v.v c.loop-v.invariant.cut c.in_ok-round_variable.ensures.cut;
}
