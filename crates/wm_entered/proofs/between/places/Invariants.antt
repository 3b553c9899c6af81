use Rattle.std.proofs.Common.{◌≡◌, ℕ, ◌<◌, length, Some, None}
use Rattle.std.specs.Prelude.{slice_index_or}
use Rattle.wm_entered.proofs.between.places.Given as goal

abbrev pub invariant-loop-a : goal.invariant-loop-a
invariant-loop-a l = record {
  long : length l.picks.items ≡ l.count;
  each : (b : ℕ) → b < l.a → slice_index_or l.picks.items b None ≡ Some b;
}
