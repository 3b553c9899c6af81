use Rattle.std.proofs.Common.{◌≡◌, drop}
use Rattle.wm_flow.specs.Seats.{heads_behind}
use Rattle.wm_seats.proofs.loops.head_count.Given as goal

abbrev pub invariant-loop-info : goal.invariant-loop-info
invariant-loop-info l = heads_behind l.counts l.number (drop l.info-index l.instances) ≡ heads_behind l.counts 1 l.instances
