use Rattle.std.proofs.Common.{arith}
use Rattle.wm_spans.proofs.Loops.{cells_turn, cells_rest}
use Rattle.wm_spans.proofs.joining.join_summaries.Goals as goal

pub loop-a-preserved : goal.loop-a-preserved
loop-a-preserved c = record {
  done = cells_turn c.args.cells.now c.loop-a.cells c.args.others.now c.loop-a.a c.summary_of.result c.summary_of-in-loop-a.result c.join-joined.result c.put_summary.new.cells (omega arith) c.summary_of.ensures c.summary_of-in-loop-a.ensures c.put_summary.ensures
      c.join-joined.ensures.least c.loop-a.invariant.done c.loop-a.invariant.rest;
  rest = cells_rest c.args.cells.now c.loop-a.cells c.loop-a.a c.join-joined.result c.put_summary.new.cells c.put_summary.ensures c.loop-a.invariant.rest;
}

pub returns-clause-each : goal.returns-clause-each
returns-clause-each c = λ j h. c.loop-a.invariant.done j (omega arith)
