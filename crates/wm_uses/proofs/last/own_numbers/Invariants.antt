use Rattle.std.proofs.Common.{◌≡◌, ℕ, ◌<◌, length, get_or}
use Rattle.wm_uses.proofs.last.own_numbers.Given as goal

abbrev pub invariant-loop-k : goal.invariant-loop-k
invariant-loop-k l = record {
  same : length l.last.items ≡ l.k;
  each : (i : ℕ) → i < l.k → get_or l.last.items i 0 ≡ i;
}
