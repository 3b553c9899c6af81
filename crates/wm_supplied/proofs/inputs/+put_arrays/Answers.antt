use Rattle.std.proofs.Common.{◌≡◌, ◌<◌, ℕ, All, length, map, Option, sym, subst, rules}
use Rattle.std.specs.Prelude.{ℤ}
use Rattle.wm_arrays.specs.declared.summary.Summary.TheVariants.{Range}
use Rattle.wm_domain.specs.declared.shape.Shape.{Shape}
use Rattle.wm_domain.specs.Points.{AllowsCell}
use Rattle.wm_domain.specs.States.{count_of, array_count, InShape}
use Rattle.wm_flow.specs.declared.action.Given.{Given}
use Rattle.wm_filters.proofs.Staying.{with_cell, with_cell-here, cell_inside}
use Rattle.wm_supplied.specs.Filling.{IsFilled}
use Rattle.wm_supplied.proofs.Supplying.{no_items, rest_shorter, first_of, rest_of, none_alike, beside_self, rest_filled}
use Rattle.wm_supplied.proofs.inputs.+put_arrays.Goals as goal

pub put_arrays-requires : goal.put_arrays-requires
put_arrays-requires g t c κs within =
    let shorter : length c.in-Some.rest.now < length c.args.arrays.now = rest_shorter c.in-Some.it.now c.in-Some.rest.now c.args.arrays.now c.in-Some.ensures.cases.0 in
    let inside =
    subst (λ (x : Shape). All (λ (y : Given). y.target < array_count x) c.in-Some.rest.now) (sym c.put_cells.ensures.shape)
    (rest_of (λ (y : Given). y.target < array_count (g.D.Domain.shape_of c.args.state.now)) c.in-Some.it.now c.in-Some.rest.now c.args.arrays.now c.in-Some.ensures.cases.0 c.requires.inside) in
    (search rules, (search rules, inside))

pub returns-in-None-clause-kept : goal.returns-in-None-clause-kept
returns-in-None-clause-kept g t c = λ was p i h f k.
    g.met.D.Domain.alike c.args.state.now was p
    (none_alike (count_of (g.D.Domain.shape_of c.args.state.now)) (array_count (g.D.Domain.shape_of c.args.state.now)) c.args.arrays.now was p (no_items c.args.arrays.now c.in-None.ensures.cases) f) h

pub returns-in-Some-clause-kept : goal.returns-in-Some-clause-kept
returns-in-Some-clause-kept g t c = λ was p i h f k.
    let shape = g.D.Domain.shape_of c.args.state.now in
    let n = count_of shape in
    let m = array_count shape in
    let it = c.in-Some.it.now in
    let rest = c.in-Some.rest.now in
    let e = c.in-Some.ensures.cases.0 in
    let q = with_cell was it.target (p.cells it.target) in
    let P = λ (y : Given). AllowsCell (Range y.range) (p.cells y.target) in
    let mid = c.put_cells.ensures.kept was q (cell_inside shape was p it.target (g.met.D.Domain.inside c.args.state.now was h) i) h (beside_self n m was p it.target)
    (subst (λ (z : Option ℤ). AllowsCell (Range it.range) z) (sym (with_cell-here was it.target (p.cells it.target))) (first_of P it rest c.args.arrays.now e k)) in
    c.put_arrays.ensures.kept q p (subst (λ (x : Shape). InShape x p) (sym c.put_cells.ensures.shape) i) mid
    (subst (λ (x : Shape). IsFilled (count_of x) (array_count x) (map (λ (y : Given). y.target) rest) q p) (sym c.put_cells.ensures.shape) (rest_filled n m it rest c.args.arrays.now was p e f))
    (rest_of P it rest c.args.arrays.now e k)
