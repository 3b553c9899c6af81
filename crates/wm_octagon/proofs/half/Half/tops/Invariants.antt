use Rattle.std.proofs.Common.{◌≡◌, length}
use Rattle.wm_octagon.specs.Layout.{bound}
use Rattle.wm_octagon.specs.Closing.{top}
use Rattle.wm_octagon.specs.HalfTable.{IsSmall}
use Rattle.wm_octagon.specs.Medium.{Filled}
use Rattle.wm_octagon.proofs.half.Half.tops.Given as goal

abbrev pub invariant-loop-k : goal.invariant-loop-k
invariant-loop-k l = record {
  long : length l.tops ≡ 64;
  filled : Filled IsSmall (top (bound l.self.bounds)) l.k l.tops;
}
