use Rattle.std.proofs.Common.{◌≡◌, ◌∙◌, ◌*◌, ◌<◌, Some, None, Bool, cond, sym, subst, ap, to_z, of_z, w64}
use Rattle.wm_octagon.specs.HalfTable.{HalfTable, IsSmall}
use Rattle.wm_octagon.specs.Layout.{bound, entry, table}
use Rattle.wm_octagon.specs.Changes.{assigned}
use Rattle.wm_octagon.specs.Assigning.{risen, AssignedOf}
use Rattle.wm_octagon.specs.Ways.{at}
use Rattle.wm_octagon.specs.View.{OctagonView, LeastOf, IsKept}
use Rattle.wm_octagon.proofs.Octagons.{opened}
use Rattle.wm_octagon.proofs.Assigns.{two_rows, fits_of, low_read, assign-table, assign-sized, assign-kept, assigned-least}
use Rattle.wm_octagon.proofs.Besides.{assign-beside}
use Rattle.wm_octagon.proofs.octagon.Octagon.assign.Goals as goal

pub change-requires-clause-beside : goal.change-requires-clause-beside
change-requires-clause-beside c = assign-beside c.self.inside.half.variables c.args.v c.args.source (to_z w64 (of_z w64 c.args.d.low)) (to_z w64 (of_z w64 c.args.d.high)) (at c.row.result) (at c.row-2.result) c.self.inside.half.bounds (c.self.invariant.tight c.if-self.false)

pub change-requires-clause-sized : goal.change-requires-clause-sized
change-requires-clause-sized c = λ k l hk here.
    let n = c.self.inside.half.variables in
    let xs = c.self.inside.half.bounds in
    let same = ap (λ (o : OctagonView). o.variables) c.self.view_is in
    let view = opened n xs c.self.inside.empty c.args.self.now c.if-self.false c.self.view_is in
    let rows = two_rows n xs c.args.source c.opposite.result c.row.result c.row-2.result c.opposite.ensures c.row.ensures.value c.row-2.ensures.value in
    let fits = fits_of n xs c.args.v c.args.source c.args.d.low c.args.d.high c.args.self.now view c.requires.fits in
    let source_in = subst (λ m. c.args.source < 2 * m) (sym same) c.requires.source in
    subst (λ a. IsSmall (risen c.args.v c.args.source a (to_z w64 (of_z w64 c.args.d.high)) (at c.row.result) (at c.row-2.result) (entry xs k l) k l)) (sym (low_read c.args.d.low c.requires.low_size))
    (subst (λ b. IsSmall (risen c.args.v c.args.source c.args.d.low b (at c.row.result) (at c.row-2.result) (entry xs k l) k l)) (sym (low_read c.args.d.high c.requires.high_size))
    (assign-sized n xs c.args.v c.args.source c.args.d.low c.args.d.high c.row.result c.row-2.result (c.self.invariant.tight c.if-self.false) (c.self.invariant.boxed c.if-self.false) fits source_in c.args.d.ordered rows k l hk here))

-- the half table that the change leaves
list : (c : goal.After-change) → c.change.new.self ≡ record { variables = c.self.inside.half.variables; bounds = table (2 * c.self.inside.half.variables) (assigned c.args.v c.args.source c.args.d.low c.args.d.high (bound c.self.inside.half.bounds)) }
list c =
    let n = c.self.inside.half.variables in
    let xs = c.self.inside.half.bounds in
    let same = ap (λ (o : OctagonView). o.variables) c.self.view_is in
    let rows = two_rows n xs c.args.source c.opposite.result c.row.result c.row-2.result c.opposite.ensures c.row.ensures.value c.row-2.ensures.value in
    let source_in = subst (λ m. c.args.source < 2 * m) (sym same) c.requires.source in
    c.change.ensures
    ∙ ap (λ ys. let h : HalfTable = record { variables = n; bounds = ys } in h)
    (ap (λ a. table (2 * n) (λ k l. risen c.args.v c.args.source a (to_z w64 (of_z w64 c.args.d.high)) (at c.row.result) (at c.row-2.result) (entry xs k l) k l)) (low_read c.args.d.low c.requires.low_size)
    ∙ ap (λ b. table (2 * n) (λ k l. risen c.args.v c.args.source c.args.d.low b (at c.row.result) (at c.row-2.result) (entry xs k l) k l)) (low_read c.args.d.high c.requires.high_size)
    ∙ assign-table n xs c.args.v c.args.source c.args.d.low c.args.d.high c.row.result c.row-2.result (c.self.invariant.tight c.if-self.false) source_in rows)

pub invariant_of-self : goal.invariant_of-self
invariant_of-self c =
    let n = c.self.inside.half.variables in
    let xs = c.self.inside.half.bounds in
    let same = ap (λ (o : OctagonView). o.variables) c.self.view_is in
    let view = opened n xs c.self.inside.empty c.args.self.now c.if-self.false c.self.view_is in
    let fits = fits_of n xs c.args.v c.args.source c.args.d.low c.args.d.high c.args.self.now view c.requires.fits in
    let source_in = subst (λ m. c.args.source < 2 * m) (sym same) c.requires.source in
    subst (λ (h : HalfTable). IsKept h.variables h.bounds c.self.inside.empty) (sym (list c))
    (subst (λ (b : Bool). IsKept n (table (2 * n) (assigned c.args.v c.args.source c.args.d.low c.args.d.high (bound xs))) b) (sym c.if-self.false)
    (assign-kept n xs c.args.v c.args.source c.args.d.low c.args.d.high c.self.invariant.few (c.self.invariant.tight c.if-self.false) (c.self.invariant.boxed c.if-self.false) fits source_in c.args.d.ordered))

pub returns-clause-least : goal.returns-clause-least
returns-clause-least c =
    let n = c.self.inside.half.variables in
    let xs = c.self.inside.half.bounds in
    let same = ap (λ (o : OctagonView). o.variables) c.self.view_is in
    let view = opened n xs c.self.inside.empty c.args.self.now c.if-self.false c.self.view_is in
    let source_in = subst (λ m. c.args.source < 2 * m) (sym same) c.requires.source in
    subst (λ (h : HalfTable). LeastOf h.variables (cond c.self.inside.empty None (Some h.bounds)) (AssignedOf c.args.self.now c.args.v c.args.source c.args.d.low c.args.d.high)) (sym (list c))
    (subst (λ (b : Bool). LeastOf n (cond b None (Some (table (2 * n) (assigned c.args.v c.args.source c.args.d.low c.args.d.high (bound xs))))) (AssignedOf c.args.self.now c.args.v c.args.source c.args.d.low c.args.d.high)) (sym c.if-self.false)
    (subst (λ (o : OctagonView). LeastOf n (Some (table (2 * n) (assigned c.args.v c.args.source c.args.d.low c.args.d.high (bound xs)))) (AssignedOf o c.args.v c.args.source c.args.d.low c.args.d.high)) view
    (assigned-least n xs c.args.v c.args.source c.args.d.low c.args.d.high (c.self.invariant.tight c.if-self.false) source_in c.args.d.ordered)))
