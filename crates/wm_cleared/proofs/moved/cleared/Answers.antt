use Rattle.std.proofs.Common.{ℕ, ◌<◌, refl, sym, subst, ◌∙◌}
use Rattle.std.specs.Prelude.{slice_index_or}
use Rattle.wm_domain.specs.declared.shape.Shape.{Shape}
use Rattle.wm_domain.specs.States.{count_of, InShape}
use Rattle.wm_carry.proofs.Ranks.{count_is}
use Rattle.wm_cleared.proofs.Clearing.{cleared_more, cleared_all, least_more, least_all, full_sized}
use Rattle.wm_cleared.proofs.moved.cleared.Goals as goal

pub assign_range-requires-clause-inside : goal.assign_range-requires-clause-inside
assign_range-requires-clause-inside g c =
    let v = slice_index_or c.args.variables.now c.loop-k.k 0 in
    subst (λ (sh : Shape). v < count_of sh) (sym c.loop-k.invariant.shape)
    (subst (λ (n : ℕ). v < n) (sym (count_is c.args.way.now.target.now)) (c.requires.inside c.loop-k.k 0 c.loop-k-test.true))

pub assign_range-requires-clause-range : goal.assign_range-requires-clause-range
assign_range-requires-clause-range g c = full_sized c.args.way.now.target.now c.requires.way.target_shape (slice_index_or c.args.variables.now c.loop-k.k 0) (c.requires.inside c.loop-k.k 0 c.loop-k-test.true) c.full_range-full.result c.full_range-full.ensures.value

pub loop-k-preserved : goal.loop-k-preserved
loop-k-preserved g c =
    let t = c.args.way.now.target.now in
    let v = slice_index_or c.args.variables.now c.loop-k.k 0 in
    record {
      shape = c.assign_range.ensures.shape ∙ c.loop-k.invariant.shape;
      sound = cleared_more g.D.Domain.holds g.D.Domain.shape_of c.args.way.now.source.now t (g.D.Domain.holds c.args.at.now) c.args.variables.now c.loop-k.state c.assign_range.new.self c.loop-k.k v c.full_range-full.result
          c.requires.way (λ x h. subst (λ (sh : Shape). InShape sh x) c.requires.shape (g.met.D.Domain.inside c.args.at.now x h)) refl c.loop-k-test.true
          (subst (λ (n : ℕ). v < n) (sym (count_is t)) (c.requires.inside c.loop-k.k 0 c.loop-k-test.true)) c.full_range-full.ensures.value c.loop-k.invariant.shape c.assign_range.ensures.shape
          c.loop-k.invariant.sound c.assign_range.ensures.sound;
      least = least_more g.row.D.Denot g.D.Domain.PAIRS g.D.Domain.holds g.D.Domain.shape_of (record { inside = g.met.D.Domain.inside; closed = g.met.D.Domain.closed; cuts = g.met.D.Domain.cuts }) c.loop-k.state c.assign_range.new.self c.args.way.now.source.now t (g.D.Domain.holds c.args.at.now) c.args.variables.now c.loop-k.k v c.full_range-full.result
          (subst (λ (n : ℕ). v < n) (sym (count_is t)) (c.requires.inside c.loop-k.k 0 c.loop-k-test.true)) refl c.loop-k-test.true c.loop-k.invariant.shape c.assign_range.ensures.shape
          c.loop-k.invariant.sound c.loop-k.invariant.least c.assign_range.ensures.least;
    }

pub returns-clause-sound : goal.returns-clause-sound
returns-clause-sound g c = cleared_all g.D.Domain.holds g.D.Domain.shape_of c.args.way.now.source.now c.args.way.now.target.now (g.D.Domain.holds c.args.at.now) c.args.variables.now c.loop-k.state c.loop-k.k c.loop-k-test.false c.loop-k.invariant.sound

pub returns-clause-least : goal.returns-clause-least
returns-clause-least g c = least_all g.D.Domain.holds g.D.Domain.shape_of c.args.way.now.source.now c.args.way.now.target.now (g.D.Domain.holds c.args.at.now) c.args.variables.now c.loop-k.state c.loop-k.k c.loop-k-test.false c.loop-k.invariant.least
