use Rattle.std.proofs.Common.{◌≡◌, length}
use Rattle.wm_octagon.specs.Layout.{bound}
use Rattle.wm_octagon.specs.HalfTable.{IsSmall}
use Rattle.wm_octagon.specs.Medium.{Filled}
use Rattle.wm_octagon.proofs.half.Half.fill_row.Given as goal

abbrev pub invariant-loop-l : goal.invariant-loop-l
invariant-loop-l l = record {
  long : length l.row ≡ 64;
  filled : Filled IsSmall (bound l.self.bounds l.k) l.l l.row;
}
