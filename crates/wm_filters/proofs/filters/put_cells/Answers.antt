use Rattle.std.proofs.Common.{sym, subst}
use Rattle.wm_domain.specs.declared.shape.Shape.{Shape}
use Rattle.wm_domain.specs.Points.{Alike}
use Rattle.wm_domain.specs.States.{InShape, count_of, array_count}
use Rattle.wm_filters.proofs.Staying.{with_cell, cell_inside, cell_set, cell_alike}
use Rattle.wm_filters.proofs.filters.put_cells.Goals as goal

pub returns-clause-kept : goal.returns-clause-kept
returns-clause-kept g c = λ was p i h k z.
    let shape = g.D.Domain.shape_of c.args.state.now in
    let q = with_cell was c.args.a (p.cells c.args.a) in
    g.met.D.Domain.alike c.set_array.new.self q p
    (subst (λ (x : Shape). Alike (count_of x) (array_count x) q p) (sym c.set_array.ensures.shape) (cell_alike (count_of shape) (array_count shape) c.args.a was p k))
    (c.set_array.ensures.sound.kept q (subst (λ (x : Shape). InShape x q) (sym c.set_array.ensures.shape) (cell_inside shape was p c.args.a (g.met.D.Domain.inside c.args.state.now was h) i))
    (cell_set (g.D.Domain.holds c.args.state.now) was p c.args.a c.args.s h z))
