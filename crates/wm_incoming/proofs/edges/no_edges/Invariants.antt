use Rattle.std.proofs.Common.{◌≡◌, ℕ, ◌<◌, [], length, get_or}
use Rattle.wm_incoming.proofs.edges.no_edges.Given as goal

abbrev pub invariant-loop-k : goal.invariant-loop-k
invariant-loop-k l = record {
  same : length l.rows.items ≡ l.k;
  each : (n : ℕ) → n < l.k → get_or l.rows.items n [] ≡ [];
}
