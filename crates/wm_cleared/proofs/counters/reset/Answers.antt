use Rattle.std.proofs.Common.{ℕ, ◌<◌, refl, sym, subst, ◌∙◌}
use Rattle.std.specs.Prelude.{slice_index_or}
use Rattle.wm_domain.specs.declared.shape.Shape.{Shape}
use Rattle.wm_domain.specs.States.{count_of}
use Rattle.wm_carry.proofs.Ranks.{count_is}
use Rattle.wm_cleared.proofs.Letting.{keeps_first, keeps_next, keeps_last, least_first, least_next, least_last}
use Rattle.wm_cleared.proofs.counters.reset.Goals as goal

pub loop-k-init : goal.loop-k-init
loop-k-init g c = record {
  shape = c.in_ok-state.ensures.shape;
  sound = keeps_first g.D.Domain.holds g.D.Domain.shape_of c.in_ok-state.state c.args.way.now.source.now c.args.way.now.target.now (g.D.Domain.holds c.args.at.now) c.args.counters.now c.in_ok-state.ensures.sound;
  least = least_first g.D.Domain.holds g.D.Domain.shape_of c.in_ok-state.state c.args.way.now.source.now c.args.way.now.target.now (g.D.Domain.holds c.args.at.now) c.args.counters.now c.in_ok-state.ensures.least;
}

pub assign_range-requires-clause-inside : goal.assign_range-requires-clause-inside
assign_range-requires-clause-inside g c =
    let v = slice_index_or c.args.counters.now c.loop-k.k 0 in
    subst (λ (sh : Shape). v < count_of sh) (sym c.loop-k.invariant.shape)
    (subst (λ (n : ℕ). v < n) (sym (count_is c.args.way.now.target.now)) (c.requires.inside c.loop-k.k 0 c.loop-k-test.true))

pub loop-k-preserved : goal.loop-k-preserved
loop-k-preserved g c = record {
  shape = c.assign_range.ensures.shape ∙ c.loop-k.invariant.shape;
  sound = keeps_next g.D.Domain.holds g.D.Domain.shape_of c.loop-k.state c.assign_range.new.self c.args.way.now.source.now c.args.way.now.target.now (g.D.Domain.holds c.args.at.now) c.args.counters.now c.loop-k.k (slice_index_or c.args.counters.now c.loop-k.k 0) c.new-zero.result
      refl c.loop-k-test.true c.new-zero.ensures.low c.new-zero.ensures.high c.assign_range.ensures.shape c.loop-k.invariant.sound c.assign_range.ensures.sound;
  least =
      let v = slice_index_or c.args.counters.now c.loop-k.k 0 in
      least_next g.row.D.Denot g.D.Domain.PAIRS g.D.Domain.holds g.D.Domain.shape_of (record { inside = g.met.D.Domain.inside; closed = g.met.D.Domain.closed; cuts = g.met.D.Domain.cuts }) c.loop-k.state c.assign_range.new.self c.args.way.now.source.now c.args.way.now.target.now (g.D.Domain.holds c.args.at.now) c.args.counters.now c.loop-k.k v c.new-zero.result
      (subst (λ (n : ℕ). v < n) (sym (count_is c.args.way.now.target.now)) (c.requires.inside c.loop-k.k 0 c.loop-k-test.true))
      refl c.loop-k-test.true c.new-zero.ensures.low c.new-zero.ensures.high c.loop-k.invariant.shape c.assign_range.ensures.shape c.loop-k.invariant.sound c.loop-k.invariant.least c.assign_range.ensures.least;
}

pub returns-clause-shape : goal.returns-clause-shape
returns-clause-shape g c = c.loop-k.invariant.shape

pub returns-clause-sound : goal.returns-clause-sound
returns-clause-sound g c = keeps_last g.D.Domain.holds g.D.Domain.shape_of c.loop-k.state c.args.way.now.source.now c.args.way.now.target.now (g.D.Domain.holds c.args.at.now) c.args.counters.now c.loop-k.k c.loop-k.invariant.sound

pub returns-clause-least : goal.returns-clause-least
returns-clause-least g c = least_last g.D.Domain.holds g.D.Domain.shape_of c.loop-k.state c.args.way.now.source.now c.args.way.now.target.now (g.D.Domain.holds c.args.at.now) c.args.counters.now c.loop-k.k c.loop-k-test.false c.loop-k.invariant.least
