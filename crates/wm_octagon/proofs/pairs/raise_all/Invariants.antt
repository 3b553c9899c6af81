use Rattle.std.proofs.Common.{◌≡◌, ℕ, ◌<◌, ◌≤◌}
use Rattle.std.specs.Int.{int_max}
use Rattle.wm_octagon.specs.Ways.{at}
use Rattle.wm_octagon.proofs.pairs.raise_all.Given as goal

abbrev pub invariant-loop-i : goal.invariant-loop-i
invariant-loop-i l = record {
  done : (j : ℕ) → j < l.i → at l.bounds j ≡ int_max (at l.fn.bounds j) (at l.others j);
  rest : (j : ℕ) → l.i ≤ j → at l.bounds j ≡ at l.fn.bounds j;
}
