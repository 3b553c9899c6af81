use Rattle.std.proofs.Common.{◌∙◌, sym, subst}
use Rattle.wm_domain.specs.States.{InShape}
use Rattle.wm_domain.specs.declared.shape.Shape.{Shape}
use Rattle.wm_cert_text.specs.declared.told.Cells.{Cells}
use Rattle.wm_state_of.specs.Setting.{CellSet}
use Rattle.wm_state_of.proofs.Setting.{more_set, one_less}
use Rattle.wm_state_of.proofs.arrays.set_arrays.Goals as goal

pub loop-place-preserved : goal.loop-place-preserved
loop-place-preserved g c = record {
  shape = c.set_one.ensures.shape ∙ c.loop-place.invariant.shape;
  made = λ p h. more_set (g.D.Domain.holds c.args.state.now) (g.D.Domain.holds c.loop-place.state) c.loop-place.place c.args.arrays.now p c.loop-place.invariant.made
      (subst (λ (held : Cells). CellSet (g.D.Domain.holds c.loop-place.state) c.loop-place.place held p) c.cells_at.ensures (c.set_one.ensures.made p h));
  kept = λ p i h. c.set_one.ensures.kept p (subst (λ (s : Shape). InShape s p) (sym c.loop-place.invariant.shape) i)
      (subst (λ (held : Cells). CellSet (g.D.Domain.holds c.loop-place.state) c.loop-place.place held p) (sym c.cells_at.ensures)
      (one_less (g.D.Domain.holds c.args.state.now) (g.D.Domain.holds c.loop-place.state) (g.D.Domain.shape_of c.args.state.now) c.loop-place.place c.args.arrays.now p
      (λ q k. g.met.D.Domain.inside c.args.state.now q k) c.loop-place.invariant.kept i h));
}
