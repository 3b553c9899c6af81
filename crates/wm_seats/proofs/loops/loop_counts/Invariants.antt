use Rattle.std.proofs.Common.{◌≡◌, ◌++◌, drop}
use Rattle.wm_seats.specs.Locals.{all_loops_in}
use Rattle.wm_seats.proofs.loops.loop_counts.Given as goal

abbrev pub invariant-loop-function : goal.invariant-loop-function
invariant-loop-function l = l.list.items ++ all_loops_in (drop l._function-index l.functions) l.loops l.number ≡ all_loops_in l.functions l.loops 0
