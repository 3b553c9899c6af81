use Rattle.std.proofs.Common.{◌≡◌, ◌≤◌, length, take}
use Rattle.wm_ways.specs.Sweeps.{swept}
use Rattle.wm_ways.proofs.sweep.sweep.Given as goal

-- what is left of the edges, from the table so far
abbrev pub invariant-loop-left : goal.invariant-loop-left
invariant-loop-left l = record {
  within : l.left ≤ length l.ways;
  rest : swept l.first l.added (take l.left l.ways) l.best.items ≡ swept l.first l.added l.ways l.fn.best.items;
}

abbrev pub decreases-loop-left : goal.decreases-loop-left
decreases-loop-left l = l.left
