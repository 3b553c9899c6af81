use Rattle.std.proofs.Common.{◌∙◌, ◌+◌, ap, arith}
use Rattle.wm_ways.specs.Numbers.{cut}
use Rattle.wm_worst_text.specs.Times.{once, times_on}
use Rattle.wm_worst_text.proofs.Folds.{edge_turn, edges_end, same_again}
use Rattle.wm_worst_text.proofs.times.times_on.Goals as goal

pub loop-k-preserved : goal.loop-k-preserved
loop-k-preserved c = record {
  same = same_again (c.loop-k.times + c.once.result) c.added-times.result c.added-times.ensures;
  rest =
      edge_turn c.args.edges.now c.args.word c.args.numbers.now c.loop-k.k c.loop-k.times c.added-times.result c.once.result c.number_at-number.result
      (cut (times_on c.args.edges.now c.args.word c.args.numbers.now)) (omega arith) (c.number_at-number.ensures c.number_at-number.result) (c.once.ensures ∙ ap (once c.args.word) c.word_in.ensures) c.added-times.ensures
      c.loop-k.invariant.rest;
}

pub returns : goal.returns
returns c =
    edges_end c.args.edges.now c.args.word c.args.numbers.now c.loop-k.k c.loop-k.times (cut (times_on c.args.edges.now c.args.word c.args.numbers.now))
    (omega arith) c.loop-k.invariant.same c.loop-k.invariant.rest
