use Rattle.std.proofs.Common.{◌≡◌, ◌<◌, ◌∙◌, All, sym, subst}
use Rattle.wm_flow.specs.declared.action.Growth.{Growth}
use Rattle.wm_domain.specs.declared.shape.Shape.{Shape}
use Rattle.wm_domain.specs.States.{InShape, count_of}
use Rattle.wm_turned.specs.Turning.{AllGrown}
use Rattle.wm_turned_at.proofs.Reverting.{revert, revert_inside, all_grown, turn_moved, all_inside}
use Rattle.wm_turned_at.proofs.Grew.{turned_least}
use Rattle.wm_turned_at.proofs.turning.turned.Goals as goal

pub turned_from-requires : goal.turned_from-requires
turned_from-requires g c = record {
  inside = subst (λ (x : Shape). All (λ (it : Growth). it.variable < count_of x) c.args.growths.now) (sym c.in_ok-moved.ensures.shape) (all_inside c.args.way.now.source.now c.args.way.now.target.now c.args.growths.now c.requires.counters);
}

pub returns-clause-sound : goal.returns-clause-sound
returns-clause-sound g c =
    let s = c.args.way.now.source.now in
    let t = c.args.way.now.target.now in
    let gs = c.args.growths.now in
    let Has = g.D.Domain.holds c.args.at.now in
    record {
      kept = λ p i m.
          let here = subst (λ (x : Shape). InShape x p) (c.in_ok-state.ensures.shape ∙ c.in_ok-moved.ensures.shape) i in
          let j = subst (λ (x : Shape). InShape x m.was) c.requires.shape (g.met.D.Domain.inside c.args.at.now m.was m.carried.point) in
          let back = revert_inside s t m.was c.requires.way j gs p c.requires.counters here in
          let base = c.in_ok-moved.ensures.sound.kept (revert s t m.was gs p) (subst (λ (x : Shape). InShape x (revert s t m.was gs p)) (sym c.in_ok-moved.ensures.shape) back) (turn_moved s t Has gs p m) in
          c.in_ok-state.ensures.sound p (subst (λ (x : Shape). InShape x p) c.in_ok-state.ensures.shape i)
          (subst (λ (x : Shape). AllGrown x (g.D.Domain.holds c.in_ok-moved.moved) gs p) (sym c.in_ok-moved.ensures.shape)
          (all_grown s t m.was c.requires.way j (g.D.Domain.holds c.in_ok-moved.moved) gs p c.requires.counters here m.grown base));
    }

pub returns-clause-least : goal.returns-clause-least
returns-clause-least g c =
    turned_least g.row.D.Denot g.D.Domain.PAIRS g.D.Domain.holds g.D.Domain.shape_of (record { inside = g.met.D.Domain.inside; closed = g.met.D.Domain.closed; cuts = g.met.D.Domain.cuts })
    c.args.way.now.source.now c.args.way.now.target.now c.requires.way c.args.at.now c.in_ok-moved.moved c.in_ok-state.state c.args.growths.now c.requires.counters
    c.requires.shape c.in_ok-moved.ensures.shape c.in_ok-moved.ensures.sound c.in_ok-moved.ensures.least c.in_ok-state.ensures.least
