use Rattle.std.proofs.Common.{◌++◌}
use Rattle.std.proofs.lemmas.List.{drop_more}
use Rattle.wm_flow.specs.Statements.{sum_places}
use Rattle.wm_control.proofs.LoopEdges.{places_turn}
use Rattle.wm_control.proofs.loops.push_places.Goals as goal

pub loop-sum-preserved : goal.loop-sum-preserved
loop-sum-preserved c =
    let more = drop_more c.args.sums.now c.loop-sum.sum-index (record { head = 0; variable = 0; step = 0 }) c.loop-sum-test.true in
    places_turn c.args.sums.now c.loop-sum.sum-index _ c.loop-sum.variable c.in_ok-variable.variable c.loop-sum.list c.push.new.self (c.args.list.now ++ sum_places c.args.first c.args.sums.now) more c.in_ok-variable.ensures c.in_ok-push.ensures.grown c.loop-sum.invariant
