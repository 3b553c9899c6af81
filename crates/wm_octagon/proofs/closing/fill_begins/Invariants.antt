use Rattle.std.proofs.Common.{◌≡◌, ℕ, ◌<◌, length, get_or}
use Rattle.wm_octagon.specs.Layout.{bound}
use Rattle.wm_octagon.specs.Ways.{at, BeginIn, IsUnmoved}
use Rattle.wm_octagon.proofs.closing.fill_begins.Given as goal

abbrev pub invariant-loop-k : goal.invariant-loop-k
invariant-loop-k l = record {
  long : length l.begins ≡ 64;
  inside : BeginIn l.begins;
  unmoved : (j c : ℕ) → j < l.k → c < get_or l.begins j 0 → IsUnmoved (bound l.half.bounds) l.j l.i (at l.to_j j) (at l.to_i j) l.lowered j c;
}
