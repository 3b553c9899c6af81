use Rattle.std.proofs.Common.{◌≡◌, ◌-◌, ◌∙◌, ap, take, arith}
use Rattle.wm_ways.specs.Sweeps.{swept}
use Rattle.wm_ways.proofs.Turns.{swept_turn}
use Rattle.wm_ways.proofs.sweep.sweep.Goals as goal

pub loop-left-preserved : goal.loop-left-preserved
loop-left-preserved c = record {
  within = omega arith;
  rest = rw c.relax.ensures (swept_turn c.args.first c.args.added.now c.args.ways.now c.way_at-way.result c.loop-left.left (c.loop-left.left - 1) c.loop-left.best.items (omega arith) (omega arith) (c.way_at-way.ensures c.way_at-way.result) ∙ c.loop-left.invariant.rest);
}
