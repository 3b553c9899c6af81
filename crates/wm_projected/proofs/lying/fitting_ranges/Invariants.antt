use Rattle.std.proofs.Common.{◌≡◌, ℕ, ◌<◌, ◌+◌, length, Some, None}
use Rattle.std.specs.Prelude.{slice_index_or}
use Rattle.wm_interval.specs.Holds.{Holds}
use Rattle.wm_domain.specs.Points.{Point, range_at, IsNarrow}
use Rattle.wm_tied.specs.Pointed.{In}
use Rattle.wm_tied.specs.Projecting.{IsDrawnRange}
use Rattle.wm_projected.proofs.lying.fitting_ranges.Given as goal

abbrev pub invariant-loop-k : goal.invariant-loop-k
invariant-loop-k l = record {
  long : length l.ranges.items ≡ length l.full;
  narrow : (j : ℕ) → j < length l.full → IsNarrow (range_at l.ranges.items j);
  each : (j : ℕ) → j < l.k → IsDrawnRange (In l.tied) (slice_index_or l.picks (l.first + j) None) (range_at l.full j) (range_at l.ranges.items j);
  lies : (p : Point) → In l.tied p → (j v : ℕ) → j < l.k → slice_index_or l.picks (l.first + j) None ≡ Some v → Holds (range_at l.full j) (p.values v);
}
