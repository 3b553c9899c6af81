use Rattle.std.proofs.Common.{◌∙◌, ◌*◌, ◌<◌, ◌≤◌, ℕ, get_or, List, ℤ, subst, sym, ap, w64}
use Rattle.std.proofs.lemmas.Int.{to_z-of_z}
use Rattle.wm_octagon.specs.Layout.{bound}
use Rattle.wm_octagon.specs.Closing.{closed}
use Rattle.wm_octagon.specs.HalfTable.{HalfTable, IsSmall}
use Rattle.wm_octagon.proofs.Small.{fits_small}
use Rattle.wm_octagon.proofs.Closings.{table-ext, closing-value, ready, round_is}
use Rattle.wm_octagon.specs.Ways.{at, IsUnmoved}
use Rattle.wm_octagon.proofs.Unmoved.{closing-beside}
use Rattle.wm_octagon.proofs.closing.take_in.Goals as goal

pub change-requires-clause-sized : goal.change-requires-clause-sized
change-requires-clause-sized c = λ k l hk hl.
    let xs = c.args.half.now.bounds in
    let n = c.args.half.now.variables in
    let r = ready n xs c.args.i c.args.j c.args.c c.fill_row.new.row c.fill_row-2.new.row c.fill_ways.new.ways c.fill_ways-2.new.ways c.fill_tops.new.tops _ _ _ _ _ c.opposite.ensures
    c.fill_row.ensures.value c.fill_row-2.ensures.value
    (round_is c.round_trip-around_j.result c.args.c c.bound.result _ c.ranges.c (fits_small _ c.bound.ensures.small) (record { sfits = c.round_trip-around_j.type_inv }) c.round_trip-around_j.ensures.value (c.bound.ensures.value ∙ ap (λ o. bound xs o c.args.i) c.opposite-2.ensures))
    (round_is c.round_trip-around_i.result c.args.c c.bound-2.result _ c.ranges.c (fits_small _ c.bound-2.ensures.small) (record { sfits = c.round_trip-around_i.type_inv }) c.round_trip-around_i.ensures.value (c.bound-2.ensures.value ∙ ap (λ o. bound xs c.args.j o) c.opposite-3.ensures))
    (to_z-of_z w64 c.args.c c.ranges.c) c.sides-sides.ensures.value c.fill_ways.ensures.value c.fill_ways-2.ensures.value c.fill_tops.ensures.value in
    subst IsSmall (sym (closing-value n xs c.args.i c.args.j c.args.c c.fill_ways.new.ways c.fill_row.new.row c.fill_ways-2.new.ways c.fill_row-2.new.row c.fill_tops.new.tops r.rows r.ways r.greatest k l hk hl))
    (c.requires.sized k l hk hl)

pub change-requires-clause-beside : goal.change-requires-clause-beside
change-requires-clause-beside c =
    let xs = c.args.half.now.bounds in
    let n = c.args.half.now.variables in
    let r = ready n xs c.args.i c.args.j c.args.c c.fill_row.new.row c.fill_row-2.new.row c.fill_ways.new.ways c.fill_ways-2.new.ways c.fill_tops.new.tops _ _ _ _ _ c.opposite.ensures
    c.fill_row.ensures.value c.fill_row-2.ensures.value
    (round_is c.round_trip-around_j.result c.args.c c.bound.result _ c.ranges.c (fits_small _ c.bound.ensures.small) (record { sfits = c.round_trip-around_j.type_inv }) c.round_trip-around_j.ensures.value (c.bound.ensures.value ∙ ap (λ o. bound xs o c.args.i) c.opposite-2.ensures))
    (round_is c.round_trip-around_i.result c.args.c c.bound-2.result _ c.ranges.c (fits_small _ c.bound-2.ensures.small) (record { sfits = c.round_trip-around_i.type_inv }) c.round_trip-around_i.ensures.value (c.bound-2.ensures.value ∙ ap (λ o. bound xs c.args.j o) c.opposite-3.ensures))
    (to_z-of_z w64 c.args.c c.ranges.c) c.sides-sides.ensures.value c.fill_ways.ensures.value c.fill_ways-2.ensures.value c.fill_tops.ensures.value in
    closing-beside n xs c.args.i c.args.j c.args.c c.fill_ways.new.ways c.fill_row.new.row c.fill_ways-2.new.ways c.fill_row-2.new.row c.fill_tops.new.tops c.tops.result c.first_less-lowered.result c.fill_begins.new.begins
    c.requires.tight c.requires.row c.requires.column r.rows r.ways r.greatest c.tops.ensures.value
    (subst (λ m. c.first_less-lowered.result ≤ m) c.sides-sides.ensures.value c.first_less-lowered.ensures.few) c.first_less-lowered.ensures.before c.fill_begins.ensures.inside
    (subst (λ o. (k l : ℕ) → k < 2 * n → l < get_or c.fill_begins.new.begins k 0 → IsUnmoved (bound xs) c.args.j o (at c.fill_ways.new.ways k) (at c.fill_ways-2.new.ways k) c.first_less-lowered.result k l) c.opposite-4.ensures c.fill_begins.ensures.unmoved)

pub returns : goal.returns
returns c =
    let xs = c.args.half.now.bounds in
    let n = c.args.half.now.variables in
    let r = ready n xs c.args.i c.args.j c.args.c c.fill_row.new.row c.fill_row-2.new.row c.fill_ways.new.ways c.fill_ways-2.new.ways c.fill_tops.new.tops _ _ _ _ _ c.opposite.ensures
    c.fill_row.ensures.value c.fill_row-2.ensures.value
    (round_is c.round_trip-around_j.result c.args.c c.bound.result _ c.ranges.c (fits_small _ c.bound.ensures.small) (record { sfits = c.round_trip-around_j.type_inv }) c.round_trip-around_j.ensures.value (c.bound.ensures.value ∙ ap (λ o. bound xs o c.args.i) c.opposite-2.ensures))
    (round_is c.round_trip-around_i.result c.args.c c.bound-2.result _ c.ranges.c (fits_small _ c.bound-2.ensures.small) (record { sfits = c.round_trip-around_i.type_inv }) c.round_trip-around_i.ensures.value (c.bound-2.ensures.value ∙ ap (λ o. bound xs c.args.j o) c.opposite-3.ensures))
    (to_z-of_z w64 c.args.c c.ranges.c) c.sides-sides.ensures.value c.fill_ways.ensures.value c.fill_ways-2.ensures.value c.fill_tops.ensures.value in
    record {
      list = c.change.ensures
          ∙ ap (λ (ys : List ℤ). let h : HalfTable = record c.args.half.now { bounds = ys } in h)
          (table-ext (2 * n) _ (closed (bound xs) c.args.i c.args.j c.args.c) (λ k l hk hl. closing-value n xs c.args.i c.args.j c.args.c c.fill_ways.new.ways c.fill_row.new.row c.fill_ways-2.new.ways c.fill_row-2.new.row c.fill_tops.new.tops r.rows r.ways r.greatest k l hk hl));
    }
