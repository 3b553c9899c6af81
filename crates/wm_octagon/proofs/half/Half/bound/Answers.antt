use Rattle.std.proofs.Common.{◌≡◌, ◌*◌, pos, get_or, length, arith, ap, sym, ◌∙◌, subst}
use Rattle.wm_octagon.specs.Layout.{row_start, place, bound}
use Rattle.wm_octagon.specs.HalfTable.{HalfTable, IsSmall}
use Rattle.wm_octagon.proofs.Rows.{place_in}
use Rattle.wm_octagon.proofs.Small.{small_read}
use Rattle.wm_octagon.proofs.half.Half.bound.Goals as goal

pub bounds-bounds-place : goal.bounds-bounds-place
bounds-bounds-place c =
    let n = ap (λ (h : HalfTable). h.variables) c.self.view_is in
    let p = place_in c.self.inside.variables c.args.k c.args.l (omega arith) (omega arith) in
    let long : length c.as_slice-bounds.result.now ≡ row_start (2 * c.self.inside.variables) = ap length c.as_slice-bounds.ensures.value ∙ c.self.invariant.long in
    omega arith

pub returns-clause-value : goal.returns-clause-value
unfolding bound
returns-clause-value c =
    let items = c.as_slice-bounds.ensures.value in
    let here : get_or c.as_slice-bounds.result.now c.place.result (pos 0) ≡ bound c.args.self.now.bounds c.args.k c.args.l =
    ap (λ i. get_or c.as_slice-bounds.result.now i (pos 0)) c.place.ensures.at
    ∙ ap (λ xs. get_or xs (place c.args.k c.args.l) (pos 0)) (items ∙ ap (λ (h : HalfTable). h.bounds) c.self.view_is) in
    small_read _ (subst (λ xs. IsSmall (get_or xs c.place.result (pos 0))) (sym items) (c.self.invariant.small c.place.result)) ∙ here

pub returns-clause-small : goal.returns-clause-small
returns-clause-small c =
    let items = c.as_slice-bounds.ensures.value in
    let s = subst (λ xs. IsSmall (get_or xs c.place.result (pos 0))) (sym items) (c.self.invariant.small c.place.result) in
    subst IsSmall (sym (small_read _ s)) s
