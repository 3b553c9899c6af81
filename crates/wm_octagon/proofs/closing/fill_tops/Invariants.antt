use Rattle.std.proofs.Common.{◌≡◌, length}
use Rattle.wm_octagon.specs.Layout.{opposite, bound}
use Rattle.wm_octagon.specs.Closing.{half_of}
use Rattle.wm_octagon.specs.Medium.{IsMedium, Filled}
use Rattle.wm_octagon.specs.Ways.{least_way}
use Rattle.wm_octagon.proofs.closing.fill_tops.Given as goal

abbrev pub invariant-loop-k : goal.invariant-loop-k
invariant-loop-k l = record {
  long : length l.tops ≡ 64;
  filled : Filled IsMedium (λ k. half_of (least_way l.to_j l.from_j l.to_i l.from_i (bound l.half.bounds (opposite k) k) (opposite k) k)) l.k l.tops;
}
