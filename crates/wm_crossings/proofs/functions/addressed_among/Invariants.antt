use Rattle.std.proofs.Common.{◌≡◌, ◌+◌, drop}
use Rattle.wm_flow.specs.Calls.{addressed_among}
use Rattle.wm_crossings.proofs.functions.addressed_among.Given as goal

abbrev pub invariant-loop-seat : goal.invariant-loop-seat
invariant-loop-seat l = l.number + addressed_among (drop l.seat-index l.seats) l.left ≡ addressed_among l.seats l.count
