use Rattle.std.proofs.Common.{◌≡◌, ℕ, ◌<◌, length, get_or, drop}
use Rattle.wm_uses.specs.Last.{turned}
use Rattle.wm_uses.proofs.last.raise_all_backs.Given as goal

abbrev pub invariant-loop-head : goal.invariant-loop-head
invariant-loop-head l = record {
  same : length l.last.items ≡ length l.fn.last.items;
  each : (k : ℕ) → k < length l.fn.last.items → turned l.graph.edges l.end (drop l.head-index l.graph.heads) k (get_or l.last.items k 0) ≡ turned l.graph.edges l.end l.graph.heads k (get_or l.fn.last.items k 0);
}
