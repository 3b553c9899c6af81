use Rattle.std.proofs.Common.{◌≡◌, ◌++◌, length, drop}
use Rattle.wm_bounds.specs.Parts.{lives_from}
use Rattle.wm_bounds.proofs.parts.lives_in.Given as goal

-- the marks so far and those of the edges that are left
abbrev pub invariant-loop-edge : goal.invariant-loop-edge
invariant-loop-edge l = record {
  so_far : l.own.items ++ lives_from l.graph l.fn.part l.live l.edge-index (drop l.edge-index l.graph.edges) ≡ lives_from l.graph l.fn.part l.live 0 l.graph.edges;
  count : length l.own.items ≡ l.edge-index;
}
