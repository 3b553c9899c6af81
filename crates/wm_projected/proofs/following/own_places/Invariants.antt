use Rattle.std.proofs.Common.{◌≡◌, ℕ, ◌<◌, length, Some, None}
use Rattle.std.specs.Prelude.{slice_index_or}
use Rattle.wm_tied.specs.Projecting.{kept_pick}
use Rattle.wm_projected.proofs.following.own_places.Given as goal

abbrev pub invariant-loop-k : goal.invariant-loop-k
invariant-loop-k l = record {
  long : length l.keep.items ≡ l.n;
  each : (j : ℕ) → j < l.k → slice_index_or l.keep.items j None ≡ kept_pick l.count (Some j);
}
