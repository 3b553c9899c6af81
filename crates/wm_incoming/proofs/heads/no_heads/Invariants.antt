use Rattle.std.proofs.Common.{◌≡◌, ℕ, ◌<◌, None, length, get_or}
use Rattle.wm_incoming.proofs.heads.no_heads.Given as goal

abbrev pub invariant-loop-k : goal.invariant-loop-k
invariant-loop-k l = record {
  same : length l.found.items ≡ l.k;
  each : (n : ℕ) → n < l.k → get_or l.found.items n None ≡ None;
}
