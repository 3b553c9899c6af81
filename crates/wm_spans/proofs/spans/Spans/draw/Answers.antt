use Rattle.std.proofs.Common.{◌∙◌, refl, arith}
use Rattle.wm_spans.proofs.Picked.{one_cut}
use Rattle.wm_spans.proofs.spans.Spans.draw.Goals as goal

pub loop-k-preserved : goal.loop-k-preserved
loop-k-preserved c = record {
  full = c.draw_one.ensures.full ∙ c.loop-k.invariant.full;
  array_full = c.draw_one.ensures.array_full ∙ c.loop-k.invariant.array_full;
  points = one_cut c.args.spans.now c.loop-k.spans c.draw_one.new.spans c.args.self.now c.args.picks.now c.loop-k.k _ refl c.draw_one.ensures.full c.draw_one.ensures.array_full c.loop-k.invariant.points c.draw_one.ensures.points;
}
