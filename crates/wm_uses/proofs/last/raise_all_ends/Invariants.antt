use Rattle.std.proofs.Common.{◌≡◌, ℕ, ◌<◌, length, get_or, drop}
use Rattle.wm_uses.specs.Last.{farthest}
use Rattle.wm_uses.proofs.last.raise_all_ends.Given as goal

abbrev pub invariant-loop-edge : goal.invariant-loop-edge
invariant-loop-edge l = record {
  same : length l.last.items ≡ length l.fn.last.items;
  each : (k : ℕ) → k < length l.fn.last.items → farthest (drop l.edge-index l.edges) k (get_or l.last.items k 0) ≡ farthest l.edges k (get_or l.fn.last.items k 0);
}
