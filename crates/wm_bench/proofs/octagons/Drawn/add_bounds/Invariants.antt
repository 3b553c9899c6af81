use Rattle.std.proofs.Common.{◌≡◌, length}
use Rattle.wm_bench.proofs.octagons.Drawn.add_bounds.Given as goal

abbrev pub invariant-loop-bound : goal.invariant-loop-bound
invariant-loop-bound l = l.octagon.variables ≡ length l.self.ranges.items
