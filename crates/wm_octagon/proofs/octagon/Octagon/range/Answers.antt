use Rattle.std.proofs.Common.{◌≡◌, ◌∙◌, ℕ, ◌*◌, ◌+◌, ◌<◌, ℤ, pos, ◌-ℤ◌, ◌≤ℤ◌, neg_ℤ, List, Some, subst, sym, ap, to_z, of_z, w64}
use Rattle.wm_octagon.specs.HalfTable.{IsSmall}
use Rattle.wm_octagon.specs.Layout.{bound}
use Rattle.wm_octagon.specs.Closing.{half_of, top}
use Rattle.wm_octagon.specs.View.{OctagonView}
use Rattle.wm_octagon.specs.Sides.{IsRangeOf}
use Rattle.wm_octagon.proofs.Small.{small_read, half_small, neg-sub, small_negated, fits_negated}
use Rattle.wm_octagon.proofs.Octagons.{range_is, opened, tight_view, top-plus, top-minus, range_room}
use mir.Val.{SFits}
use Rattle.wm_octagon.proofs.octagon.Octagon.range.Goals as goal

-- the two halves are the greatest values of the variable and of its negative
record Ends (xs : List ℤ) (v : ℕ) (low high : ℤ) : Type 0 where
  low_small : IsSmall low
  high_small : IsSmall high
  low_is : low ≡ top (bound xs) (2 * v + 1)
  high_is : high ≡ top (bound xs) (2 * v)

ends : (c : goal.After-halved-low) → Ends c.self.inside.half.bounds c.args.v c.halved-low.result c.halved-high.result
ends c =
    let low = c.halved-low.ensures.value ∙ ap half_of (small_read _ c.bound-2.ensures.small) in
    let high = c.halved-high.ensures.value ∙ ap half_of (small_read _ c.bound.ensures.small) in
    record {
      low_small = subst IsSmall (sym low) (half_small _ c.bound-2.ensures.small);
      high_small = subst IsSmall (sym high) (half_small _ c.bound.ensures.small);
      low_is = low ∙ ap half_of c.bound-2.ensures.value ∙ top-minus c.self.inside.half.bounds c.args.v;
      high_is = high ∙ ap half_of c.bound.ensures.value ∙ top-plus c.self.inside.half.bounds c.args.v;
    }

-- the negative of the lower half, as the code has it
minus_is : (c : goal.After-halved-low) → to_z w64 (of_z w64 (pos 0 -ℤ to_z w64 (of_z w64 c.halved-low.result))) ≡ neg_ℤ (top (bound c.self.inside.half.bounds) (2 * c.args.v + 1))
minus_is c =
    let e = ends c in
    let a : pos 0 -ℤ to_z w64 (of_z w64 c.halved-low.result) ≡ neg_ℤ c.halved-low.result = ap (λ z. pos 0 -ℤ z) (small_read _ e.low_small) ∙ neg-sub c.halved-low.result in
    small_read _ (subst IsSmall (sym a) (small_negated _ e.low_small)) ∙ a ∙ ap neg_ℤ e.low_is

pub overflow_sub-low : goal.overflow_sub-low
overflow_sub-low c =
    let e = ends c in
    subst (λ z. SFits w64 (pos 0 -ℤ z)) (sym (small_read _ e.low_small)) (fits_negated _ e.low_small)

pub new-requires : goal.new-requires
new-requires c =
    let e = ends c in
    let n = ap (λ (o : OctagonView). o.variables) c.self.view_is in
    let room = range_room c.self.inside.half.variables c.self.inside.half.bounds c.args.v (c.self.invariant.tight c.if-self.false) (subst (λ m. c.args.v < m) (sym n) c.requires) in
    subst (λ z. z ≤ℤ to_z w64 (of_z w64 c.halved-high.result)) (sym (minus_is c))
    (subst (λ z. neg_ℤ (top (bound c.self.inside.half.bounds) (2 * c.args.v + 1)) ≤ℤ z) (sym (small_read _ e.high_small ∙ e.high_is)) room)

-- the same after the interval is made
minus_after : (c : goal.After-new) → c.new.result.low ≡ neg_ℤ (top (bound c.self.inside.half.bounds) (2 * c.args.v + 1))
minus_after c =
    let low = c.halved-low.ensures.value ∙ ap half_of (small_read _ c.bound-2.ensures.small) in
    let low_small : IsSmall c.halved-low.result = subst IsSmall (sym low) (half_small _ c.bound-2.ensures.small) in
    let low_is = low ∙ ap half_of c.bound-2.ensures.value ∙ top-minus c.self.inside.half.bounds c.args.v in
    let a : pos 0 -ℤ to_z w64 (of_z w64 c.halved-low.result) ≡ neg_ℤ c.halved-low.result = ap (λ z. pos 0 -ℤ z) (small_read _ low_small) ∙ neg-sub c.halved-low.result in
    c.new.ensures.low ∙ small_read _ (subst IsSmall (sym a) (small_negated _ low_small)) ∙ a ∙ ap neg_ℤ low_is

plus_after : (c : goal.After-new) → c.new.result.high ≡ top (bound c.self.inside.half.bounds) (2 * c.args.v)
plus_after c =
    let high = c.halved-high.ensures.value ∙ ap half_of (small_read _ c.bound.ensures.small) in
    let high_small : IsSmall c.halved-high.result = subst IsSmall (sym high) (half_small _ c.bound.ensures.small) in
    c.new.ensures.high ∙ small_read _ high_small ∙ high ∙ ap half_of c.bound.ensures.value ∙ top-plus c.self.inside.half.bounds c.args.v

pub returns-clause-ends : goal.returns-clause-ends
returns-clause-ends c =
    let xs = c.self.inside.half.bounds in
    let n = c.self.inside.half.variables in
    let same = ap (λ (o : OctagonView). o.variables) c.self.view_is in
    let view = opened n xs c.self.inside.empty c.args.self.now c.if-self.false c.self.view_is in
    subst (λ (o : OctagonView). IsRangeOf o c.args.v c.new.result.low c.new.result.high) view
    (subst (λ z. IsRangeOf (record { variables = n; bounds = Some xs }) c.args.v z c.new.result.high) (sym (minus_after c))
    (subst (λ z. IsRangeOf (record { variables = n; bounds = Some xs }) c.args.v (neg_ℤ (top (bound xs) (2 * c.args.v + 1))) z) (sym (plus_after c))
    (range_is n xs c.args.v (c.self.invariant.tight c.if-self.false) (subst (λ m. c.args.v < m) (sym same) c.requires))))

pub returns-clause-points : goal.returns-clause-points
returns-clause-points c = tight_view c.self.inside.half.variables c.self.inside.half.bounds c.self.inside.empty c.args.self.now c.self.invariant c.self.view_is
