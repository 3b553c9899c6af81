use Rattle.std.proofs.Common.{◌-ℤ◌, nat_abs}
use Rattle.std.proofs.Common.{ℤ, ◌*ℤ◌}
use Rattle.wm_ops.specs.Clamping.{leaves32}
use Rattle.wm_hull.specs.Boxes.{zero_box}
use Rattle.wm_hull.specs.Searches.{SearchedSecond}
use Rattle.wm_failing.proofs.products.search_second.Given as goal

abbrev pub invariant-loop-left : goal.invariant-loop-left
invariant-loop-left l = SearchedSecond (λ (a b c : ℤ). leaves32 (a *ℤ b)) l.x l.fn.y zero_box l.left

abbrev pub decreases-loop-left : goal.decreases-loop-left
decreases-loop-left l = nat_abs (l.left.high -ℤ l.left.low)
