use Rattle.std.proofs.lemmas.List.{drop_more}
use Rattle.wm_places.specs.Seen.{plan_of}
use Rattle.wm_control.specs.Moves.{tying_from}
use Rattle.wm_control.proofs.LoopEdges.{tying_turn, tying_ended}
use Rattle.wm_control.proofs.sums.ties_from.Goals as goal

pub loop-sum-preserved : goal.loop-sum-preserved
loop-sum-preserved c =
    let plan = plan_of c.args.plan.now in
    let more = drop_more c.args.sums.now c.loop-sum.sum-index _ c.loop-sum-test.true in
    tying_turn plan c.args.scene c.args.loop_id c.args.sums.now c.loop-sum.sum-index _ c.loop-sum.variable c.in_ok-variable.variable c.loop-sum.pen c.tie_next.new.pen (tying_from plan c.args.scene c.args.loop_id c.args.first c.args.sums.now c.args.pen.now) more c.in_ok-variable.ensures.next c.in_ok-variable.ensures.strokes c.loop-sum.invariant

pub returns : goal.returns
returns c =
    let plan = plan_of c.args.plan.now in
    tying_ended plan c.args.scene c.args.loop_id c.loop-sum.variable c.args.sums.now c.loop-sum.sum-index c.loop-sum.pen (tying_from plan c.args.scene c.args.loop_id c.args.first c.args.sums.now c.args.pen.now) c.loop-sum-test.false c.loop-sum.invariant
