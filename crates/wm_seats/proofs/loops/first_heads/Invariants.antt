use Rattle.std.proofs.Common.{◌≡◌, ◌++◌, drop}
use Rattle.wm_flow.specs.Seats.{heads_from}
use Rattle.wm_seats.proofs.loops.first_heads.Given as goal

abbrev pub invariant-loop-info : goal.invariant-loop-info
invariant-loop-info l = l.list ++ heads_from l.counts l.number (drop l.info-index l.instances) ≡ heads_from l.counts 1 l.instances
