use Rattle.std.proofs.Common.{◌∙◌, refl}
use Rattle.wm_domain.specs.Points.{nought}
use Rattle.wm_tied.proofs.Gathering.{any_default}
use Rattle.wm_tied.proofs.Picking.{one_pick}
use Rattle.wm_tied.proofs.tied.Tied.cut_picked.Goals as goal

pub loop-k-preserved : goal.loop-k-preserved
loop-k-preserved c = record {
  alike = record {
    group = c.cut_pick.ensures.alike.group ∙ c.loop-k.invariant.alike.group;
    full = c.cut_pick.ensures.alike.full ∙ c.loop-k.invariant.alike.full;
    array_full = c.cut_pick.ensures.alike.array_full ∙ c.loop-k.invariant.alike.array_full;
  };
  points = one_pick c.args.self.now c.loop-k.self c.cut_pick.new.self c.args.full.now c.args.picks.now c.args.first c.loop-k.k _ c.index-full-k.result refl (c.index-full-k.is ∙ any_default c.args.full.now c.loop-k.k c.index-full-k.result nought c.loop-k-test.true) c.cut_pick.ensures.alike c.loop-k.invariant.points c.cut_pick.ensures.points;
}
