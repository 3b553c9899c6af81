use Rattle.std.proofs.Common.{arith}
use Rattle.wm_spans.proofs.Loops.{not_all_below}
use Rattle.wm_spans.proofs.joining.summaries_below.Goals as goal

pub returns-then-not-lies : goal.returns-then-not-lies
returns-then-not-lies c = not_all_below c.args.cells.now c.args.others.now c.loop-a.a c.summary_of.result c.summary_of-in-loop-a.result c.within-lies.result (omega arith) c.summary_of.ensures c.summary_of-in-loop-a.ensures c.within-lies.ensures.numbers c.if-not-lies.true
