use Rattle.std.proofs.Common.{◌∙◌, subst}
use Rattle.wm_domain.specs.declared.shape.Shape.{Shape}
use Rattle.wm_rounding.specs.Cuts.{SetsCell}
use Rattle.wm_rounding.proofs.Cells.{next_cells}
use Rattle.wm_rounding.proofs.rounding.round_arrays.Goals as goal

pub loop-a-preserved : goal.loop-a-preserved
loop-a-preserved g c = record {
  shape = c.in_ok-round_array.ensures.shape ∙ c.loop-a.invariant.shape;
  cells = next_cells c.args.grid.now (g.D.Domain.holds c.args.held.now) (g.D.Domain.holds c.loop-a.state) (g.D.Domain.holds c.round_array.new.state) (g.D.Domain.shape_of c.args.state.now) c.loop-a.a c.args.count c.loop-a-test.true c.loop-a.invariant.cells
      (subst (λ (s : Shape). SetsCell c.args.grid.now (g.D.Domain.holds c.args.held.now) (g.D.Domain.holds c.loop-a.state) (g.D.Domain.holds c.round_array.new.state) s c.loop-a.a) c.loop-a.invariant.shape c.in_ok-round_array.ensures.set);
}
