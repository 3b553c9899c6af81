use Rattle.std.proofs.Common.{◌≡◌, ◌-◌, ◌∙◌, ap, take, arith}
use Rattle.wm_ways.specs.Loops.{filled}
use Rattle.wm_ways.proofs.Turns.{filled_turn}
use Rattle.wm_ways.proofs.loops.fill.Goals as goal

pub loop-left-preserved : goal.loop-left-preserved
loop-left-preserved c = record {
  within = omega arith;
  rest = rw c.in_ok-add_turns.ensures (filled_turn c.args.ways.now c.args.firsts.now c.args.marks.now c.mark_at-mark.result c.loop-left.left (c.loop-left.left - 1) c.loop-left.added.items (omega arith) (omega arith) (c.mark_at-mark.ensures c.mark_at-mark.result) ∙ c.loop-left.invariant.rest);
}
