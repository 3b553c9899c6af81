use Rattle.std.proofs.Common.{ℕ, ◌<◌}
use Rattle.wm_domain.specs.Points.{range_at}
use Rattle.wm_spans.specs.Spanned.{Lies}
use Rattle.wm_spans.proofs.joining.ranges_below.Given as goal

abbrev pub invariant-loop-v : goal.invariant-loop-v
invariant-loop-v l = (j : ℕ) → j < l.v → Lies (range_at l.others j) (range_at l.ranges j)
