use Rattle.wm_places.specs.Seen.{plan_of}
use Rattle.wm_flow.specs.Views.{doing_of}
use Rattle.wm_control.proofs.LoopEdges.{entering_is}
use Rattle.wm_control.proofs.loops.enter.Goals as goal

pub returns : goal.returns
unfolding plan_of
returns c =
    entering_is (plan_of c.args.plan.now) c.args.scene c.in_ok-within.within c.args.loop_id c.in_ok-head.head c.node-node.result c.in_ok-target.target (doing_of c.in_ok-action.action) c.args.pen.now c.line.new.self c.begins.new.self c.point.new.self c.in_ok-within.ensures c.node-node.ensures.node c.in_ok-target.ensures c.in_ok-head.ensures c.in_ok-action.ensures c.in_ok-line.ensures c.in_ok-begins.ensures c.in_ok-point.ensures
