use Rattle.std.proofs.Common.{◌≡◌, ℕ, ◌+◌, ◌<◌, ◌≤◌, pos, get_or}
use Rattle.wm_octagon.proofs.layout.change_row.Given as goal

abbrev pub invariant-loop-l : goal.invariant-loop-l
invariant-loop-l g l = record {
  done : (j : ℕ) → j < l.l → get_or l.row j (pos 0) ≡ g.C.Change.value l.change l.k (l.first + j) (get_or l.fn.row j (pos 0));
  rest : (j : ℕ) → l.l ≤ j → get_or l.row j (pos 0) ≡ get_or l.fn.row j (pos 0);
}
