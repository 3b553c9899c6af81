use Rattle.std.proofs.Common.{ℕ, ◌<◌, ◌≤ℤ◌}
use Rattle.wm_octagon.specs.Ways.{at}
use Rattle.wm_octagon.proofs.pairs.all_below.Given as goal

abbrev pub invariant-loop-i : goal.invariant-loop-i
invariant-loop-i l = (j : ℕ) → j < l.i → at l.bounds j ≤ℤ at l.others j
