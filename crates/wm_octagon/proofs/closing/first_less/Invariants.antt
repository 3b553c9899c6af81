use Rattle.std.proofs.Common.{ℕ, ◌<◌, ◌≤ℤ◌}
use Rattle.wm_octagon.specs.Ways.{at}
use Rattle.wm_octagon.proofs.closing.first_less.Given as goal

abbrev pub invariant-loop-k : goal.invariant-loop-k
invariant-loop-k l = record {
  before : (j : ℕ) → j < l.k → at l.olds j ≤ℤ at l.news j;
}
