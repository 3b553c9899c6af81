use Rattle.std.proofs.Common.{◌≡◌, refl, ◌∙◌, None}
use Rattle.std.specs.Prelude.{slice_index_or}
use Rattle.wm_left.specs.Taking.{TakenAt, TakenFrom}
use Rattle.wm_filters.proofs.Staying.{stays_same, stays_then}
use Rattle.wm_left.proofs.Taken.{from_at}
use Rattle.wm_left.proofs.single.take_ranges.Goals as goal

pub loop-v-init : goal.loop-v-init
loop-v-init g c = record {
  shape = refl;
  kept = stays_same g.D.Domain.holds (g.D.Domain.shape_of c.args.state.now) c.args.state.now (TakenFrom (g.D.Domain.holds c.args.from.now) c.args.picks.now);
}

pub loop-v-preserved : goal.loop-v-preserved
loop-v-preserved g c =
    let Has = g.D.Domain.holds c.args.from.now in
    record {
      shape = c.take_pick.ensures.shape ∙ c.loop-v.invariant.shape;
      kept = stays_then g.D.Domain.holds (g.D.Domain.shape_of c.args.state.now) (g.D.Domain.shape_of c.loop-v.state) c.args.state.now c.loop-v.state c.take_pick.new.state
          (TakenFrom Has c.args.picks.now) (TakenAt Has c.loop-v.v (slice_index_or c.args.picks.now c.loop-v.v None)) c.loop-v.invariant.shape
          (λ p i k. from_at Has c.args.picks.now c.loop-v.v p c.loop-v-test.true k) c.loop-v.invariant.kept c.take_pick.ensures.kept;
    }
