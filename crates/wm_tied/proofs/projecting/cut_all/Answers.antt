use Rattle.std.proofs.Common.{◌∙◌}
use Rattle.wm_domain.specs.Points.{nought}
use Rattle.wm_tied.proofs.Gathering.{any_default}
use Rattle.wm_tied.proofs.Picking.{one_within}
use Rattle.wm_tied.proofs.projecting.cut_all.Goals as goal

pub loop-k-preserved : goal.loop-k-preserved
loop-k-preserved c = record {
  full = c.cut.ensures.full ∙ c.loop-k.invariant.full;
  array_full = c.cut.ensures.array_full ∙ c.loop-k.invariant.array_full;
  points = one_within c.args.spans.now c.loop-k.spans c.cut.new.self c.args.ranges.now c.loop-k.k c.index-ranges-k.result (c.index-ranges-k.is ∙ any_default c.args.ranges.now c.loop-k.k c.index-ranges-k.result nought c.loop-k-test.true) c.cut.ensures.full c.cut.ensures.array_full c.loop-k.invariant.points c.cut.ensures.points;
}
