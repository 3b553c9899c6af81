use Rattle.std.proofs.Common.{◌∙◌}
use Rattle.wm_rounding.specs.Rounding.{MeetsRow}
use Rattle.wm_rounding.proofs.Cutting.{each_cut}
use Rattle.wm_rounding.proofs.rounding.round_rows.Goals as goal

pub loop-w-preserved : goal.loop-w-preserved
loop-w-preserved g c = record {
  shape = c.in_ok-round_row.ensures.shape ∙ c.loop-w.invariant.shape;
  cut = each_cut (g.D.Domain.holds c.args.state.now) (g.D.Domain.holds c.loop-w.state) (g.D.Domain.holds c.round_row.new.state) (λ w p. MeetsRow c.args.grid.now (g.D.Domain.holds c.args.held.now) w p) c.loop-w.w c.loop-w.invariant.cut c.in_ok-round_row.ensures.cut;
}
