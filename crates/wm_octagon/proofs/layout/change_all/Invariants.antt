use Rattle.std.proofs.Common.{◌≡◌, ℕ, ◌<◌, ◌≤◌, pos, get_or}
use Rattle.wm_octagon.specs.Layout.{row_len, row_start, entry}
use Rattle.wm_octagon.proofs.layout.change_all.Given as goal

abbrev pub invariant-loop-k : goal.invariant-loop-k
invariant-loop-k g l = record {
  at : l.start ≡ row_start l.k;
  done : (j i : ℕ) → j < l.k → i < row_len j → entry l.bounds j i ≡ g.C.Change.value l.change j i (entry l.fn.bounds j i);
  rest : (i : ℕ) → l.start ≤ i → get_or l.bounds i (pos 0) ≡ get_or l.fn.bounds i (pos 0);
}
