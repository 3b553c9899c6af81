use Rattle.std.proofs.Common.{arith}
use Rattle.wm_grid.proofs.Neighbours.{below_next, above_from, from_not_below}
use Rattle.wm_grid.proofs.nearest.count_below.Goals as goal

pub loop-low-preserved-then-is_below : goal.loop-low-preserved-then-is_below
loop-low-preserved-then-is_below c = record {
  order = omega arith;
  within = c.loop-low.invariant.within;
  below = below_next _ _ _ c.requires (omega arith) (c.is_below.ensures.0 c.if-is_below.true);
  above = c.loop-low.invariant.above;
}

pub loop-low-preserved : goal.loop-low-preserved
loop-low-preserved c = record {
  order = omega arith;
  within = omega arith;
  below = c.loop-low.invariant.below;
  above = above_from _ _ _ c.requires (from_not_below _ _ _ c.if-is_below.false c.is_below.ensures.1);
}
