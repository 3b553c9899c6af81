use Rattle.std.proofs.Common.{[], sym, subst, ◌∙◌}
use Rattle.wm_domain.specs.declared.shape.Shape.{Shape}
use Rattle.wm_domain.specs.States.{IsShape, InShape}
use Rattle.wm_carry.specs.Following.{Moved}
use Rattle.wm_carry.proofs.Reaching.{least_as}
use Rattle.wm_guarded.proofs.Going.{keeps_after, least_after}
use Rattle.wm_step.specs.Images.{TieImage}
use Rattle.wm_paced.proofs.Pacings.{made_least}
use Rattle.wm_paced.specs.Pacing.{TiedAt}
use Rattle.wm_paced.proofs.paces.paced.Goals as goal

pub returns-clause-sound : goal.returns-clause-sound
returns-clause-sound g c =
    let Tied = TiedAt (g.D.Domain.holds c.args.at.now) c.args.pace.counter c.args.pace.loop_step c.args.pace.variable c.args.pace.step in
    let after = keeps_after g.D.Domain.holds g.D.Domain.shape_of c.in_ok-state.state c.in_ok-moved.moved c.args.way.now.source.now c.args.way.now.target.now Tied Tied
    (λ x h. subst (λ (sh : Shape). InShape sh x) c.requires.shape (g.met.D.Domain.inside c.args.at.now x h.point))
    (c.in_ok-state.ensures.shape ∙ c.requires.shape) (λ x h. h) c.in_ok-state.ensures.sound c.in_ok-moved.ensures.sound in
    record {
      kept = λ p i m. after.kept p i (record {
        was = m.was;
        carried = record {
          point = record { point = m.carried.point; above = m.above; below = m.below };
          numbers = m.carried.numbers;
          cells = m.carried.cells;
        };
      });
    }

pub narrowed-requires-clause-shaped : goal.narrowed-requires-clause-shaped
narrowed-requires-clause-shaped g c = subst IsShape (sym c.requires.shape) c.requires.way.source_shape

pub returns-clause-least : goal.returns-clause-least
returns-clause-least g c =
    let s = c.args.way.now.source.now in
    let t = c.args.way.now.target.now in
    let Tied = TiedAt (g.D.Domain.holds c.args.at.now) c.args.pace.counter c.args.pace.loop_step c.args.pace.variable c.args.pace.step in
    least_as g.D.Domain.holds g.D.Domain.shape_of c.in_ok-moved.moved (Moved s t Tied [] []) (TieImage s t (g.D.Domain.holds c.args.at.now) c.args.pace.counter c.args.pace.loop_step c.args.pace.variable c.args.pace.step)
    (λ p i m. record {
      was = m.was;
      carried = record { point = m.carried.point.point; numbers = m.carried.numbers; cells = m.carried.cells };
      above = m.carried.point.above;
      below = m.carried.point.below;
    })
    (least_after g.row.D.Denot g.D.Domain.PAIRS g.D.Domain.holds g.D.Domain.shape_of (record { inside = g.met.D.Domain.inside; closed = g.met.D.Domain.closed; cuts = g.met.D.Domain.cuts })
    c.in_ok-state.state c.in_ok-moved.moved s t Tied Tied c.requires.way (c.in_ok-state.ensures.shape ∙ c.requires.shape) c.in_ok-moved.ensures.shape (λ x h. h) c.in_ok-state.ensures.sound
    (made_least g.D.Domain.holds g.D.Domain.shape_of c.in_ok-state.state Tied (λ p h. g.met.D.Domain.inside c.in_ok-state.state p h) c.in_ok-state.ensures.made) c.in_ok-moved.ensures.least)
