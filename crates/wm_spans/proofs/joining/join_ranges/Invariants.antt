use Rattle.std.proofs.Common.{◌≡◌, ℕ, ◌<◌, ◌≤◌, length}
use Rattle.wm_domain.specs.Points.{range_at}
use Rattle.wm_spans.specs.Exact.{IsJoined}
use Rattle.wm_spans.proofs.joining.join_ranges.Given as goal

abbrev pub invariant-loop-v : goal.invariant-loop-v
invariant-loop-v l = record {
  done : (j : ℕ) → j < l.v → IsJoined (range_at l.fn.ranges j) (range_at l.others j) (range_at l.ranges j);
  rest : (j : ℕ) → l.v ≤ j → range_at l.ranges j ≡ range_at l.fn.ranges j;
}
