use Rattle.std.proofs.Common.{◌≡◌, ◌+◌, drop}
use Rattle.wm_flow.specs.Seats.{loops_in}
use Rattle.wm_seats.proofs.loops.loops_in.Given as goal

abbrev pub invariant-loop-it : goal.invariant-loop-it
invariant-loop-it l = l.count + loops_in (drop l.it-index l.loops) l.function ≡ loops_in l.loops l.function
