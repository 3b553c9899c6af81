use Rattle.std.proofs.Common.{◌≡◌, ◌≤◌, length, take}
use Rattle.wm_ways.specs.Loops.{firsts_from}
use Rattle.wm_ways.proofs.loops.put_firsts.Given as goal

abbrev pub invariant-loop-left : goal.invariant-loop-left
invariant-loop-left l = record {
  within : l.left ≤ length l.ways;
  rest : firsts_from 0 (take l.left l.ways) l.firsts.items ≡ firsts_from 0 l.ways l.fn.firsts.items;
}

abbrev pub decreases-loop-left : goal.decreases-loop-left
decreases-loop-left l = l.left
