use Rattle.std.proofs.Common.{◌≡◌, ◌∙◌, sym, subst}
use Rattle.wm_octagon.specs.HalfTable.{HalfTable}
use Rattle.wm_octagon.specs.Points.{IsPoint, IsTight, LeastOctagon}
use Rattle.wm_octagon.specs.Ranges.{InRanges, box_table}
use Rattle.wm_octagon.proofs.Least.{tight_of_least}
use Rattle.wm_octagon.proofs.Ranges.{box-small, box-half, box-least, box-points}
use Rattle.wm_octagon.proofs.Besides.{beside_all}
use Rattle.wm_octagon.proofs.half.Half.new.Goals as goal

pub change-requires-clause-beside : goal.change-requires-clause-beside
change-requires-clause-beside c = beside_all _ _ _

pub change-requires-clause-sized : goal.change-requires-clause-sized
change-requires-clause-sized c = box-small c.in_ok-half.half.variables c.args.ranges.now c.range_tops.result (c.in_ok-half.ensures {u = tt}) c.requires.narrow c.range_tops.ensures.value

-- the half table that the change leaves
list : (c : goal.After-change) → c.change.new.self ≡ box_table c.args.ranges.now
list c = c.change.ensures ∙ box-half c.in_ok-half.half c.args.ranges.now c.range_tops.result (c.in_ok-half.ensures {u = tt}) c.range_tops.ensures.value

pub returns-clause-list : goal.returns-clause-list
returns-clause-list c = list c

pub returns-clause-least : goal.returns-clause-least
returns-clause-least c = subst (λ (h : HalfTable). LeastOctagon h.variables (InRanges c.args.ranges.now) h.bounds) (sym (list c)) (box-least c.args.ranges.now)

pub returns-clause-tight : goal.returns-clause-tight
returns-clause-tight c = subst (λ (h : HalfTable). IsTight h.variables h.bounds) (sym (list c)) (tight_of_least _ _ _ (box-least c.args.ranges.now))

pub returns-clause-points : goal.returns-clause-points
returns-clause-points c = λ x.
    subst (λ (h : HalfTable). (IsPoint h.variables h.bounds x → InRanges c.args.ranges.now x) × (InRanges c.args.ranges.now x → IsPoint h.variables h.bounds x)) (sym (list c))
    (box-points c.args.ranges.now x, (box-least c.args.ranges.now).holds x)
