use Rattle.std.proofs.Common.{◌+◌}
use Rattle.wm_ways.specs.Numbers.{cut}
use Rattle.wm_worst_text.specs.Times.{times_of}
use Rattle.wm_worst_text.proofs.Folds.{body_turn, same_again}
use Rattle.wm_worst_text.proofs.times.+times_of.Goals as goal

pub loop-body-preserved : goal.loop-body-preserved
loop-body-preserved t c = record {
  same = same_again (c.loop-body.times + c.turned.result) c.added-times.result c.added-times.ensures;
  rest =
      body_turn c.args.edges.now c.args.word c.as_slice-body-items.result.now c.loop-body.body-index c.loop-body.times c.added-times.result c.times_of.result c.turned.result c.body-item.result
      (cut (times_of c.args.edges.now c.args.word c.args.choice.now)) c.loop-body-test.true c.body-item.is c.times_of.ensures.times c.turned.ensures c.added-times.ensures c.loop-body.invariant.rest;
}
