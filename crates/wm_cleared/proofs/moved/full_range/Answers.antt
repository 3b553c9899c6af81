use Rattle.wm_cleared.proofs.Clearing.{group_at, single_at}
use Rattle.wm_cleared.proofs.moved.full_range.Goals as goal

pub returns-then-v-group : goal.returns-then-v-group
returns-then-v-group c = record { value = group_at c.args.shape.now c.items-group.result.now c.args.v c.at.result c.items-group.ensures.items c.if-v-group.true c.at.ensures }

pub returns : goal.returns
returns c = record { value = single_at c.args.shape.now c.items-group.result.now c.items.result.now c.args.v c.at-2.result c.items-group.ensures.items c.items.ensures.items c.if-v-group.false c.at-2.ensures }
