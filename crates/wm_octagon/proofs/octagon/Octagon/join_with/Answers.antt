use Rattle.std.proofs.Common.{◌∙◌, sym, ap, subst, cond, Some, None}
use Rattle.wm_octagon.specs.HalfTable.{HalfTable}
use Rattle.wm_octagon.specs.Joining.{InEither}
use Rattle.wm_octagon.specs.View.{OctagonView, LeastOf, IsKept}
use Rattle.wm_octagon.proofs.OctagonJoins.{join-empty, no_bounds, join-kept, join-both}
use Rattle.wm_octagon.proofs.octagon.Octagon.join_with.Goals as goal

pub returns-then-other-clause-least : goal.returns-then-other-clause-least
returns-then-other-clause-least c =
    join-empty c.self.inside.half.variables c.self.inside.half.bounds c.self.inside.empty c.args.self.now c.args.other.now c.self.invariant c.self.view_is
    (no_bounds c.other.inside.half.variables c.other.inside.half.bounds c.other.inside.empty c.args.other.now c.if-other.true c.other.view_is)

pub invariant_of-self-2 : goal.invariant_of-self-2
invariant_of-self-2 c =
    let same = ap (λ (o : OctagonView). o.variables) c.self.view_is ∙ c.requires ∙ sym (ap (λ (o : OctagonView). o.variables) c.other.view_is) in
    subst (λ (h : HalfTable). IsKept h.variables h.bounds c.self.inside.empty) (sym c.raise.ensures.value)
    (join-kept c.self.inside.half.variables c.other.inside.half.variables c.self.inside.half.bounds c.other.inside.half.bounds c.self.inside.empty c.other.inside.empty same c.if-self.false c.if-other.false c.raise.ensures.whole c.self.invariant c.other.invariant)

pub returns-clause-least : goal.returns-clause-least
returns-clause-least c =
    let same = ap (λ (o : OctagonView). o.variables) c.self.view_is ∙ c.requires ∙ sym (ap (λ (o : OctagonView). o.variables) c.other.view_is) in
    subst (λ (h : HalfTable). LeastOf h.variables (cond c.self.inside.empty None (Some h.bounds)) (InEither c.args.self.now c.args.other.now)) (sym c.raise.ensures.value)
    (join-both c.self.inside.half.variables c.other.inside.half.variables c.self.inside.half.bounds c.other.inside.half.bounds c.self.inside.empty c.other.inside.empty c.args.self.now c.args.other.now same c.if-self.false c.if-other.false c.raise.ensures.whole c.self.invariant c.other.invariant c.self.view_is c.other.view_is)
