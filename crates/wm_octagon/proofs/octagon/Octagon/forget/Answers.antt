use Rattle.std.proofs.Common.{◌≡◌, ◌∙◌, ◌*◌, Some, None, Bool, cond, sym, subst, ap}
use Rattle.wm_octagon.specs.HalfTable.{HalfTable}
use Rattle.wm_octagon.specs.Layout.{bound, table}
use Rattle.wm_octagon.specs.Changes.{loosened}
use Rattle.wm_octagon.specs.Ways.{at}
use Rattle.wm_octagon.specs.View.{OctagonView, LeastOf, IsKept}
use Rattle.wm_octagon.specs.Sides.{FreedOf}
use Rattle.wm_octagon.proofs.Moves.{FreeTops}
use Rattle.wm_octagon.proofs.Octagons.{opened}
use Rattle.wm_octagon.proofs.Forgets.{forget-table, free_tops, forget-sized, forget-kept, freed-least}
use Rattle.wm_octagon.proofs.Besides.{forget-beside}
use Rattle.wm_octagon.proofs.octagon.Octagon.forget.Goals as goal

pub change-requires-clause-beside : goal.change-requires-clause-beside
change-requires-clause-beside c = forget-beside c.self.inside.half.variables c.args.v (at c.freed_tops.result) c.self.inside.half.bounds

pub change-requires-clause-sized : goal.change-requires-clause-sized
change-requires-clause-sized c =
    let f = free_tops c.self.inside.half.variables c.self.inside.half.bounds c.args.v c.args.r.low c.args.r.high c.tops.result c.freed_tops.result c.tops.ensures.value c.freed_tops.ensures.plus c.freed_tops.ensures.minus c.freed_tops.ensures.others in
    forget-sized c.self.inside.half.variables c.self.inside.half.bounds c.args.v c.args.r.low c.args.r.high (at c.freed_tops.result) (c.self.invariant.tight c.if-self.false) (c.self.invariant.boxed c.if-self.false) f c.args.r.ordered c.requires.low_size c.requires.high_size

-- the tops that the code hands over
freed : (c : goal.After-change) → FreeTops c.self.inside.half.variables c.self.inside.half.bounds c.args.v c.args.r.low c.args.r.high (at c.freed_tops.result)
freed c = free_tops c.self.inside.half.variables c.self.inside.half.bounds c.args.v c.args.r.low c.args.r.high c.tops.result c.freed_tops.result c.tops.ensures.value c.freed_tops.ensures.plus c.freed_tops.ensures.minus c.freed_tops.ensures.others

-- the half table that the change leaves
list : (c : goal.After-change) → c.change.new.self ≡ record { variables = c.self.inside.half.variables; bounds = table (2 * c.self.inside.half.variables) (loosened c.args.v (at c.freed_tops.result) (bound c.self.inside.half.bounds)) }
list c = c.change.ensures ∙ ap (λ ys. let h : HalfTable = record { variables = c.self.inside.half.variables; bounds = ys } in h) (forget-table c.self.inside.half.variables c.self.inside.half.bounds c.args.v (at c.freed_tops.result))

pub invariant_of-self : goal.invariant_of-self
invariant_of-self c =
    subst (λ (h : HalfTable). IsKept h.variables h.bounds c.self.inside.empty) (sym (list c))
    (subst (λ (b : Bool). IsKept c.self.inside.half.variables (table (2 * c.self.inside.half.variables) (loosened c.args.v (at c.freed_tops.result) (bound c.self.inside.half.bounds))) b) (sym c.if-self.false)
    (forget-kept c.self.inside.half.variables c.self.inside.half.bounds c.args.v c.args.r.low c.args.r.high (at c.freed_tops.result) c.self.invariant.few (c.self.invariant.tight c.if-self.false) (c.self.invariant.boxed c.if-self.false) (freed c) c.args.r.ordered c.requires.low_size c.requires.high_size))

pub returns-clause-least : goal.returns-clause-least
returns-clause-least c =
    let view = opened c.self.inside.half.variables c.self.inside.half.bounds c.self.inside.empty c.args.self.now c.if-self.false c.self.view_is in
    subst (λ (h : HalfTable). LeastOf h.variables (cond c.self.inside.empty None (Some h.bounds)) (FreedOf c.args.self.now c.args.v c.args.r.low c.args.r.high)) (sym (list c))
    (subst (λ (b : Bool). LeastOf c.self.inside.half.variables (cond b None (Some (table (2 * c.self.inside.half.variables) (loosened c.args.v (at c.freed_tops.result) (bound c.self.inside.half.bounds))))) (FreedOf c.args.self.now c.args.v c.args.r.low c.args.r.high)) (sym c.if-self.false)
    (subst (λ (o : OctagonView). LeastOf c.self.inside.half.variables (Some (table (2 * c.self.inside.half.variables) (loosened c.args.v (at c.freed_tops.result) (bound c.self.inside.half.bounds)))) (FreedOf o c.args.v c.args.r.low c.args.r.high)) view
    (freed-least c.self.inside.half.variables c.self.inside.half.bounds c.args.v c.args.r.low c.args.r.high (at c.freed_tops.result) (c.self.invariant.tight c.if-self.false) (freed c) c.args.r.ordered)))
