use Rattle.std.proofs.Common.{◌≡◌, ◌∙◌, sym, pos, w64, FitsSigned, ◌≤ℤ◌, rules}
use Rattle.std.proofs.lemmas.Int.{to_z-of_z}
use Rattle.wm_numbers.proofs.Order.{le_trans, le_of_eq, low_within, high_within}
use Rattle.wm_ops.specs.Arguments.{ArgsFit}
use Rattle.wm_ops.specs.Outcomes.{value_of}
use Rattle.wm_hull.specs.Ranges.{IsCountFor}
use Rattle.wm_hull.proofs.ShiftOps.{ShiftRange, left_is, pair_fits}
use Rattle.wm_hull.proofs.ShiftRanges.{count_in}
use Rattle.wm_hull.proofs.shifts.lefts.Goals as goal
use Rattle.wm_hull.proofs.shifts.lefts.Goals.{After-count_for-high_count, After-left-high}

for_low : (c : After-count_for-high_count) → IsCountFor c.args.x.low c.args.counts.low c.args.counts.high c.count_for-low_count.result
for_low c =
    let number : FitsSigned w64 c.args.x.low = search rules in
    let least : FitsSigned w64 c.args.counts.low = search rules in
    let greatest : FitsSigned w64 c.args.counts.high = search rules in
    simp to_z-of_z at c.count_for-low_count.ensures

for_high : (c : After-count_for-high_count) → IsCountFor c.args.x.high c.args.counts.high c.args.counts.low c.count_for-high_count.result
for_high c =
    let number : FitsSigned w64 c.args.x.high = search rules in
    let least : FitsSigned w64 c.args.counts.low = search rules in
    let greatest : FitsSigned w64 c.args.counts.high = search rules in
    simp to_z-of_z at c.count_for-high_count.ensures

pub left-low-requires-clause-types : goal.left-low-requires-clause-types
left-low-requires-clause-types c =
    let d = (goal.at.left-low-requires-clause-types c).After-count_for-high_count in
    let number : FitsSigned w64 c.args.x.low = search rules in
    let count : FitsSigned w64 c.count_for-low_count.result = search rules in
    let types : ArgsFit c.args.op c.args.x.low c.count_for-low_count.result (pos 0) =
    pair_fits c.args.op c.args.x c.args.counts _ _ c.requires.types (low_within c.args.x.ordered) (count_in c.args.counts c.args.x.low c.args.counts.low c.args.counts.high _ (low_within c.args.counts.ordered) (high_within c.args.counts.ordered) (for_low d)) in
    simp to_z-of_z types

pub left-high-requires-clause-types : goal.left-high-requires-clause-types
left-high-requires-clause-types c =
    let d = (goal.at.left-high-requires-clause-types c).After-count_for-high_count in
    let number : FitsSigned w64 c.args.x.high = search rules in
    let count : FitsSigned w64 c.count_for-high_count.result = search rules in
    let types : ArgsFit c.args.op c.args.x.high c.count_for-high_count.result (pos 0) =
    pair_fits c.args.op c.args.x c.args.counts _ _ c.requires.types (high_within c.args.x.ordered) (count_in c.args.counts c.args.x.high c.args.counts.high c.args.counts.low _ (high_within c.args.counts.ordered) (low_within c.args.counts.ordered) (for_high d)) in
    simp to_z-of_z types

low_is : (c : After-left-high) → c.left-low.result ≡ value_of c.args.op c.args.x.low c.count_for-low_count.result (pos 0)
low_is c =
    let number : FitsSigned w64 c.args.x.low = search rules in
    let count : FitsSigned w64 c.count_for-low_count.result = search rules in
    simp to_z-of_z at c.left-low.ensures

high_is : (c : After-left-high) → c.left-high.result ≡ value_of c.args.op c.args.x.high c.count_for-high_count.result (pos 0)
high_is c =
    let number : FitsSigned w64 c.args.x.high = search rules in
    let count : FitsSigned w64 c.count_for-high_count.result = search rules in
    simp to_z-of_z at c.left-high.ensures

pub new-requires : goal.new-requires
new-requires c =
    let d = (goal.at.new-requires c).After-count_for-high_count in
    let first : FitsSigned w64 c.left-low.result = search rules in
    let second : FitsSigned w64 c.left-high.result = search rules in
    let shifts : ShiftRange c.args.op c.args.x c.args.counts c.count_for-low_count.result c.count_for-high_count.result = left_is c.args.op c.requires.shift c.args.x c.args.counts _ _ c.requires.types (for_low d) (for_high d) in
    let e = (goal.at.new-requires c).After-left-high in
    let ordered : c.left-low.result ≤ℤ c.left-high.result = le_trans (le_of_eq (low_is e)) (le_trans shifts.ordered (le_of_eq (sym (high_is e)))) in
    simp to_z-of_z ordered

pub returns : goal.returns
returns c =
    let d = (goal.at.returns c).After-count_for-high_count in
    let e = (goal.at.returns c).After-left-high in
    let first : FitsSigned w64 c.left-low.result = search rules in
    let second : FitsSigned w64 c.left-high.result = search rules in
    let shifts : ShiftRange c.args.op c.args.x c.args.counts c.count_for-low_count.result c.count_for-high_count.result = left_is c.args.op c.requires.shift c.args.x c.args.counts _ _ c.requires.types (for_low d) (for_high d) in
    λ z. shifts.tells z c.new.result (simp to_z-of_z at c.new.ensures.low ∙ low_is e) (simp to_z-of_z at c.new.ensures.high ∙ high_is e)
