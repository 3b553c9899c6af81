use Rattle.std.proofs.Common.{ℕ, ◌<◌}
use Rattle.wm_arrays.specs.Meaning.{IsIncluded}
use Rattle.wm_spans.specs.Spanned.{cell_at}
use Rattle.wm_spans.proofs.joining.summaries_below.Given as goal

abbrev pub invariant-loop-a : goal.invariant-loop-a
invariant-loop-a l = (j : ℕ) → j < l.a → IsIncluded (cell_at l.cells j) (cell_at l.others j)
