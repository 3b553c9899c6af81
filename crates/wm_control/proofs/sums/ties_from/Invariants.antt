use Rattle.std.proofs.Common.{◌≡◌, drop}
use Rattle.wm_places.specs.Seen.{plan_of}
use Rattle.wm_control.specs.Moves.{tying_from}
use Rattle.wm_control.proofs.sums.ties_from.Given as goal

abbrev pub invariant-loop-sum : goal.invariant-loop-sum
invariant-loop-sum l = tying_from (plan_of l.plan) l.scene l.loop_id l.variable (drop l.sum-index l.sums) l.pen ≡ tying_from (plan_of l.plan) l.scene l.loop_id l.first l.sums l.initial.pen
