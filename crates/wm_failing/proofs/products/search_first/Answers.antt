use Rattle.std.proofs.Common.{ℤ, ◌*ℤ◌}
use Rattle.wm_ops.specs.Clamping.{leaves32}
use Rattle.wm_hull.specs.Boxes.{zero_box}
use Rattle.wm_hull.proofs.Narrowing.{begin_first, box_within}
use Rattle.wm_failing.proofs.products.search_first.Goals as goal

pub loop-left-init : goal.loop-left-init
loop-left-init c = begin_first (λ (a b c : ℤ). leaves32 (a *ℤ b)) c.args.x c.args.y zero_box c.requires.some

pub half_first-left-requires-clause-size : goal.half_first-left-requires-clause-size
half_first-left-requires-clause-size c = box_within c.args.x c.loop-left.left c.requires.first c.loop-left.invariant.low_in c.loop-left.invariant.high_in

pub loop-left-preserved : goal.loop-left-preserved
loop-left-preserved c = c.half_first-left.ensures.keeps c.args.x zero_box c.loop-left.invariant
