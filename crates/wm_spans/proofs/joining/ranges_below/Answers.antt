use Rattle.std.proofs.Common.{arith}
use Rattle.wm_spans.proofs.Loops.{not_all_lie}
use Rattle.wm_spans.proofs.joining.ranges_below.Goals as goal

pub returns-then-not-lies : goal.returns-then-not-lies
returns-then-not-lies c = not_all_lie c.args.ranges.now c.args.others.now c.loop-v.v c.range_of.result c.range_of-in-loop-v.result c.within-lies.result (omega arith) c.range_of.ensures c.range_of-in-loop-v.ensures c.within-lies.ensures.ends c.if-not-lies.true
