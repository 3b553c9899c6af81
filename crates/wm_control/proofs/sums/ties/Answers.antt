use Rattle.wm_places.specs.Seen.{plan_of}
use Rattle.std.proofs.Common.{◌∙◌}
use Rattle.wm_control.proofs.LoopEdges.{tying_is}
use Rattle.wm_control.proofs.sums.ties.Goals as goal

pub returns : goal.returns
returns c =
    c.in_ok-ties_from.ensures
    ∙ tying_is (plan_of c.args.plan.now) c.args.scene c.args.loop_id c.in_ok-first.first c.in_ok-sums.sums.now c.in_ok-bases.bases c.args.pen.now c.in_ok-bases.ensures c.in_ok-first.ensures c.in_ok-sums.ensures
