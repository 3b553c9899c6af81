use Rattle.std.proofs.Common.{◌≡◌, ◌*◌, length}
use Rattle.wm_octagon.specs.HalfTable.{IsSmall}
use Rattle.wm_octagon.specs.Medium.{Filled}
use Rattle.wm_octagon.specs.Ranges.{range_top}
use Rattle.wm_octagon.proofs.half.range_tops.Given as goal

abbrev pub invariant-loop-v : goal.invariant-loop-v
invariant-loop-v l = record {
  long : length l.tops ≡ 64;
  filled : Filled IsSmall (range_top l.ranges) (2 * l.v) l.tops;
}
