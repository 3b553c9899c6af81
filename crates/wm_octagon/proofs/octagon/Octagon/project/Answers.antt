use Rattle.std.proofs.Common.{◌≡◌, ◌∙◌, ◌*◌, ◌<◌, Some, false, length, refl, sym, subst, ap, arith}
use Rattle.std.specs.Prelude.{All, IfSome}
use Rattle.wm_octagon.specs.HalfTable.{HalfTable, IsSmall}
use Rattle.wm_octagon.specs.Layout.{bound, table}
use Rattle.wm_octagon.specs.Closing.{top}
use Rattle.wm_octagon.specs.Projecting.{drawn_top, projected, ProjectedOf, IsOwn}
use Rattle.wm_octagon.specs.View.{OctagonView, LeastOf, IsKept}
use Rattle.wm_octagon.proofs.Octagons.{opened}
use Rattle.wm_octagon.proofs.OctagonJoins.{no_bounds}
use Rattle.wm_octagon.proofs.Projects.{AreNamed, TwoTops, named_of, project-value, project-small, project-half, project-kept, project-least, own-least, nothing_made}
use Rattle.wm_octagon.proofs.Besides.{beside_all}
use Rattle.wm_octagon.proofs.octagon.Octagon.project.Goals as goal

pub change-requires-clause-beside : goal.change-requires-clause-beside
change-requires-clause-beside c = beside_all _ _ _

pub change-requires-clause-sized : goal.change-requires-clause-sized
change-requires-clause-sized c = λ k l hk here.
    let n = c.self.inside.half.variables in
    let xs = c.self.inside.half.bounds in
    let keep = c.args.keep.now in
    let rs = c.args.ranges.now in
    let same = ap (λ (o : OctagonView). o.variables) c.self.view_is in
    let many : c.in_ok-half.half.variables ≡ length keep = c.in_ok-half.ensures in
    let named = named_of n keep (subst (λ m. All (λ p. IfSome p (λ v. v < m)) keep) (sym same) c.requires.named) in
    let two : TwoTops n xs keep rs c.tops.result c.drawn_tops.result = record { before = c.tops.ensures.value; after = c.drawn_tops.ensures.value } in
    let k_in : k < 2 * length keep = omega arith in
    subst IsSmall (sym (project-value n xs keep rs c.tops.result c.drawn_tops.result named two k l k_in here))
    (project-small n xs keep rs (c.self.invariant.tight c.if-self.false) (c.self.invariant.boxed c.if-self.false) c.requires.long named c.requires.narrow k l k_in here)

named : (c : goal.After-change) → AreNamed c.self.inside.half.variables c.args.keep.now
named c = named_of c.self.inside.half.variables c.args.keep.now (subst (λ m. All (λ p. IfSome p (λ v. v < m)) c.args.keep.now) (sym (ap (λ (o : OctagonView). o.variables) c.self.view_is)) c.requires.named)

-- the half table that the change leaves
list : (c : goal.After-change) → c.change.new.self ≡ record { variables = length c.args.keep.now; bounds = table (2 * length c.args.keep.now) (projected c.args.keep.now (drawn_top c.args.keep.now c.args.ranges.now (top (bound c.self.inside.half.bounds))) (bound c.self.inside.half.bounds)) }
list c =
    let two : TwoTops c.self.inside.half.variables c.self.inside.half.bounds c.args.keep.now c.args.ranges.now c.tops.result c.drawn_tops.result = record { before = c.tops.ensures.value; after = c.drawn_tops.ensures.value } in
    c.change.ensures
    ∙ project-half c.in_ok-half.half c.self.inside.half.variables c.self.inside.half.bounds c.args.keep.now c.args.ranges.now c.tops.result c.drawn_tops.result
    c.in_ok-half.ensures (named c) two

pub returns-then-self-clause-least : goal.returns-then-self-clause-least
returns-then-self-clause-least c =
    nothing_made c.args.self.now c.args.keep.now c.args.ranges.now
    (no_bounds c.self.inside.half.variables c.self.inside.half.bounds c.self.inside.empty c.args.self.now c.if-self.true c.self.view_is)

pub invariant_of-result-2 : goal.invariant_of-result-2
invariant_of-result-2 c =
    subst (λ (h : HalfTable). IsKept h.variables h.bounds false) (sym (list c))
    (project-kept c.self.inside.half.variables c.self.inside.half.bounds c.args.keep.now c.args.ranges.now c.requires.few (c.self.invariant.tight c.if-self.false) (c.self.invariant.boxed c.if-self.false) c.requires.long (named c) c.requires.narrow)

pub returns-clause-least : goal.returns-clause-least
returns-clause-least c =
    let view = opened c.self.inside.half.variables c.self.inside.half.bounds c.self.inside.empty c.args.self.now c.if-self.false c.self.view_is in
    subst (λ (h : HalfTable). LeastOf h.variables (Some h.bounds) (ProjectedOf c.args.self.now c.args.keep.now c.args.ranges.now)) (sym (list c))
    (subst (λ (o : OctagonView). LeastOf (length c.args.keep.now) (Some (table (2 * length c.args.keep.now) (projected c.args.keep.now (drawn_top c.args.keep.now c.args.ranges.now (top (bound c.self.inside.half.bounds))) (bound c.self.inside.half.bounds)))) (ProjectedOf o c.args.keep.now c.args.ranges.now)) view
    (project-least c.self.inside.half.variables c.self.inside.half.bounds c.args.keep.now c.args.ranges.now (c.self.invariant.tight c.if-self.false) c.requires.long (named c)))

pub returns-then-is_own-clause-least : goal.returns-then-is_own-clause-least
returns-then-is_own-clause-least c =
    let view = opened c.self.inside.half.variables c.self.inside.half.bounds c.self.inside.empty c.args.self.now c.if-self.false c.self.view_is in
    let own : IsOwn c.args.keep.now (2 * c.self.inside.half.variables) = subst (IsOwn c.args.keep.now) c.sides.ensures.value (c.if-is_own.ensures refl) in
    subst (λ (h : HalfTable). LeastOf h.variables (Some h.bounds) (ProjectedOf c.args.self.now c.args.keep.now c.args.ranges.now)) (sym c.in_ok-same.ensures)
    (subst (λ (o : OctagonView). LeastOf c.self.inside.half.variables (Some c.self.inside.half.bounds) (ProjectedOf o c.args.keep.now c.args.ranges.now)) view
    (own-least c.self.inside.half.variables c.self.inside.half.bounds c.args.keep.now c.args.ranges.now (c.self.invariant.tight c.if-self.false) own))
