use Rattle.std.proofs.Common.{arith}
use Rattle.wm_grid.proofs.Neighbours.{up_to_next, past_from, from_not_up_to}
use Rattle.wm_grid.proofs.nearest.count_to.Goals as goal

pub loop-low-preserved-then-is_at_most : goal.loop-low-preserved-then-is_at_most
loop-low-preserved-then-is_at_most c = record {
  order = omega arith;
  within = c.loop-low.invariant.within;
  below = up_to_next _ _ _ c.requires (omega arith) (c.is_at_most.ensures.0 c.if-is_at_most.true);
  above = c.loop-low.invariant.above;
}

pub loop-low-preserved : goal.loop-low-preserved
loop-low-preserved c = record {
  order = omega arith;
  within = omega arith;
  below = c.loop-low.invariant.below;
  above = past_from _ _ _ c.requires (from_not_up_to _ _ _ c.if-is_at_most.false c.is_at_most.ensures.1);
}
