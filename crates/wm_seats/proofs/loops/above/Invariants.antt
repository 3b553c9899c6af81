use Rattle.std.proofs.Common.{◌≡◌, drop, []}
use Rattle.wm_flow.specs.Seats.{above_from}
use Rattle.wm_seats.proofs.loops.above.Given as goal

abbrev pub invariant-loop-info : goal.invariant-loop-info
invariant-loop-info l = above_from l.statics l.counts l.instances l.list (drop l.info-index l.instances) ≡ above_from l.statics l.counts l.instances [] l.instances
