use Rattle.std.proofs.Common.{◌≡◌, ◌-◌, ◌∙◌, ap, take, arith}
use Rattle.wm_ways.specs.Loops.{firsts_from}
use Rattle.wm_ways.proofs.Turns.{firsts_turn}
use Rattle.wm_ways.proofs.loops.put_firsts.Goals as goal

pub loop-left-preserved : goal.loop-left-preserved
loop-left-preserved c = record {
  within = omega arith;
  rest = rw c.put_first.ensures (firsts_turn c.args.ways.now c.way_at-way.result c.loop-left.left (c.loop-left.left - 1) c.loop-left.firsts.items (omega arith) (omega arith) (c.way_at-way.ensures c.way_at-way.result) ∙ c.loop-left.invariant.rest);
}
