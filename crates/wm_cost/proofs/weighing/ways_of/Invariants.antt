use Rattle.std.proofs.Common.{◌≡◌, ◌++◌, length, drop}
use Rattle.wm_cost.specs.Edges.{ways_from}
use Rattle.wm_cost.proofs.weighing.ways_of.Given as goal

-- the edges so far and what is left of them
abbrev pub invariant-loop-edge : goal.invariant-loop-edge
invariant-loop-edge l = record {
  so_far : l.ways.items ++ ways_from l.weights l.live l.edge-index (drop l.edge-index l.edges) ≡ ways_from l.weights l.live 0 l.edges;
  count : length l.ways.items ≡ l.edge-index;
}
