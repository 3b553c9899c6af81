use Rattle.std.proofs.Common.{◌≡◌, ◌∙◌, ◌<◌, Some, subst, sym, ap, to_z, of_z, w64}
use Rattle.wm_octagon.specs.Layout.{opposite, bound}
use Rattle.wm_octagon.specs.View.{OctagonView}
use Rattle.wm_octagon.specs.Sides.{number_of, IsSumOf}
use Rattle.wm_numbers.specs.Extremes.{GreatestOf}
use Rattle.wm_octagon.proofs.Small.{small_read}
use Rattle.wm_octagon.proofs.Octagons.{sum_is, opened, tight_view}
use Rattle.wm_octagon.proofs.octagon.Octagon.bound.Goals as goal

pub returns-clause-greatest : goal.returns-clause-greatest
returns-clause-greatest c =
    let xs = c.self.inside.half.bounds in
    let n = c.self.inside.half.variables in
    let same = ap (λ (o : OctagonView). o.variables) c.self.view_is in
    let view = opened n xs c.self.inside.empty c.args.self.now c.if-self.false c.self.view_is in
    let value : to_z w64 (of_z w64 c.bound.result) ≡ bound xs (opposite (number_of c.args.a)) (number_of c.args.b) =
    small_read _ c.bound.ensures.small ∙ c.bound.ensures.value
    ∙ ap (λ k. bound xs k c.number-2.result) (c.opposite.ensures ∙ ap opposite c.number.ensures.value)
    ∙ ap (bound xs (opposite (number_of c.args.a))) c.number-2.ensures.value in
    subst (λ (o : OctagonView). GreatestOf (IsSumOf o c.args.a c.args.b) (to_z w64 (of_z w64 c.bound.result))) view
    (subst (λ z. GreatestOf (IsSumOf (record { variables = n; bounds = Some xs }) c.args.a c.args.b) z) (sym value)
    (sum_is n xs c.args.a c.args.b (c.self.invariant.tight c.if-self.false) (subst (λ m. c.args.a.variable < m) (sym same) c.requires.first) (subst (λ m. c.args.b.variable < m) (sym same) c.requires.second)))

pub returns-clause-points : goal.returns-clause-points
returns-clause-points c = tight_view c.self.inside.half.variables c.self.inside.half.bounds c.self.inside.empty c.args.self.now c.self.invariant c.self.view_is
