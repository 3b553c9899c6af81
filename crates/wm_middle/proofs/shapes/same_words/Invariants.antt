use Rattle.std.proofs.Common.{◌≡◌, ℕ, ◌<◌, length}
use Rattle.wm_domain.specs.Points.{range_at}
use Rattle.wm_middle.specs.Parting.{AreWords}
use Rattle.wm_middle.proofs.shapes.same_words.Given as goal

abbrev pub invariant-loop-k : goal.invariant-loop-k
invariant-loop-k l = record {
  long : length l.list ≡ l.k;
  each : (j : ℕ) → j < l.k → AreWords (range_at l.list j);
}
