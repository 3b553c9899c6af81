use Rattle.std.proofs.Common.{ℕ, ◌≡◌, ◌<◌, None, Some}
use Rattle.std.specs.Prelude.{slice_index_or}
use Rattle.wm_projected.proofs.whole.are_own.Given as goal

abbrev pub invariant-loop-k : goal.invariant-loop-k
invariant-loop-k l = (j : ℕ) → j < l.k → slice_index_or l.picks j None ≡ Some j
