use Rattle.std.proofs.Common.{arith}
use Rattle.wm_spans.proofs.Loops.{ranges_turn, ranges_rest}
use Rattle.wm_spans.proofs.joining.join_ranges.Goals as goal

pub loop-v-preserved : goal.loop-v-preserved
loop-v-preserved c = record {
  done = ranges_turn c.args.ranges.now c.loop-v.ranges c.args.others.now c.loop-v.v c.range_of.result c.range_of-in-loop-v.result c.join-joined.result c.put_range.new.ranges (omega arith) c.range_of.ensures c.range_of-in-loop-v.ensures c.put_range.ensures
      (record { low = c.join-joined.ensures.low; high = c.join-joined.ensures.high }) c.loop-v.invariant.done c.loop-v.invariant.rest;
  rest = ranges_rest c.args.ranges.now c.loop-v.ranges c.loop-v.v c.join-joined.result c.put_range.new.ranges c.put_range.ensures c.loop-v.invariant.rest;
}

pub returns-clause-each : goal.returns-clause-each
returns-clause-each c = λ j h. c.loop-v.invariant.done j (omega arith)
