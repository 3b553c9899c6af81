use Rattle.std.proofs.Common.{◌≡◌, length}
use Rattle.wm_octagon.specs.Closing.{through}
use Rattle.wm_octagon.specs.Medium.{IsMedium, Filled}
use Rattle.wm_octagon.specs.Ways.{at}
use Rattle.wm_octagon.proofs.closing.fill_ways.Given as goal

abbrev pub invariant-loop-k : goal.invariant-loop-k
invariant-loop-k l = record {
  long : length l.ways ≡ 64;
  filled : Filled IsMedium (through (at l.near) (at l.far) l.fn.around l.fn.c) l.k l.ways;
}
