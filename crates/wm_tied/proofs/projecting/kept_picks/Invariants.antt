use Rattle.std.proofs.Common.{◌≡◌, ℕ, ◌<◌, length, None}
use Rattle.std.specs.Prelude.{slice_index_or}
use Rattle.wm_tied.specs.Projecting.{kept_pick}
use Rattle.wm_tied.proofs.projecting.kept_picks.Given as goal

abbrev pub invariant-loop-k : goal.invariant-loop-k
invariant-loop-k l = record {
  long : length l.keep.items ≡ l.count;
  each : (j : ℕ) → j < l.k → slice_index_or l.keep.items j None ≡ kept_pick l.limit (slice_index_or l.picks j None);
}
