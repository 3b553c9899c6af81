use Rattle.std.proofs.Common.{◌≡◌, ℕ, ◌<◌, length, None}
use Rattle.std.specs.Prelude.{slice_index_or}
use Rattle.wm_domain.specs.Points.{range_at}
use Rattle.wm_spans.specs.Spanned.{cell_at}
use Rattle.wm_spans.specs.Exact.{IsDrawnAt}
use Rattle.wm_spans.proofs.spans.Spans.drawn.Given as goal

abbrev pub invariant-loop-k : goal.invariant-loop-k
invariant-loop-k l = record {
  long : length l.cells.items ≡ length l.arrays;
  each : (j : ℕ) → j < l.k → IsDrawnAt (cell_at l.self.cells) (slice_index_or l.picks j None) (range_at l.arrays j) (cell_at l.cells.items j);
}
