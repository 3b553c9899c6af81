use Rattle.wm_places.specs.Seen.{plan_of}
use Rattle.wm_flow.specs.Views.{doing_of}
use Rattle.wm_control.proofs.LoopEdges.{turning_is}
use Rattle.wm_control.proofs.loops.turn.Goals as goal

pub returns : goal.returns
unfolding plan_of
returns c =
    turning_is (plan_of c.args.plan.now) c.args.scene c.in_ok-within.within c.args.loop_id c.args.head c.in_ok-number.number c.node-node.result (doing_of c.in_ok-action.action) c.args.pen.now c.line.new.self c.turns.new.self c.point.new.self c.in_ok-within.ensures c.node-node.ensures.node c.in_ok-number.ensures c.in_ok-action.ensures c.in_ok-line.ensures c.in_ok-turns.ensures c.in_ok-point.ensures
