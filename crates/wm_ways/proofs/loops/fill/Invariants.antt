use Rattle.std.proofs.Common.{◌≡◌, ◌≤◌, length, take}
use Rattle.wm_ways.specs.Loops.{filled}
use Rattle.wm_ways.proofs.loops.fill.Given as goal

abbrev pub invariant-loop-left : goal.invariant-loop-left
invariant-loop-left l = record {
  within : l.left ≤ length l.marks;
  rest : filled l.ways l.firsts (take l.left l.marks) l.added.items ≡ filled l.ways l.firsts l.marks l.fn.added.items;
}

abbrev pub decreases-loop-left : goal.decreases-loop-left
decreases-loop-left l = l.left
