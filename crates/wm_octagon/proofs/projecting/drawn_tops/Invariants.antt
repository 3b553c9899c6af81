use Rattle.std.proofs.Common.{◌≡◌, length}
use Rattle.wm_octagon.specs.HalfTable.{IsSmall}
use Rattle.wm_octagon.specs.Medium.{Filled}
use Rattle.wm_octagon.specs.Projecting.{drawn_top}
use Rattle.wm_octagon.specs.Ways.{at}
use Rattle.wm_octagon.proofs.projecting.drawn_tops.Given as goal

abbrev pub invariant-loop-k : goal.invariant-loop-k
invariant-loop-k l = record {
  long : length l.tops ≡ 64;
  filled : Filled IsSmall (drawn_top l.keep l.ranges (at l.old)) l.k l.tops;
}
