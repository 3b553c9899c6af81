use Rattle.std.proofs.Common.{◌≡◌, ℕ, ◌<◌, ◌≤◌, length}
use Rattle.wm_arrays.specs.Meaning.{IsLeastFor, IsEither}
use Rattle.wm_spans.specs.Spanned.{cell_at}
use Rattle.wm_spans.proofs.joining.join_summaries.Given as goal

abbrev pub invariant-loop-a : goal.invariant-loop-a
invariant-loop-a l = record {
  done : (j : ℕ) → j < l.a → IsLeastFor (IsEither (cell_at l.fn.cells j) (cell_at l.others j)) (cell_at l.cells j);
  rest : (j : ℕ) → l.a ≤ j → cell_at l.cells j ≡ cell_at l.fn.cells j;
}
