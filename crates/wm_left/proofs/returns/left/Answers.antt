use Rattle.std.proofs.Common.{subst}
use Rattle.wm_domain.specs.declared.shape.Shape.{Shape}
use Rattle.wm_domain.specs.States.{InShape}
use Rattle.wm_left.proofs.returns.left.Goals as goal

pub returns-clause-sound : goal.returns-clause-sound
returns-clause-sound g c = record {
  kept = λ p i h.
      let own = subst (λ (x : Shape). InShape x p) c.take_result.ensures.shape i in
      let first = subst (λ (x : Shape). InShape x p) c.in_ok-take_own.ensures.shape own in
      c.take_result.ensures.kept.kept p own
      (c.in_ok-take_own.ensures.kept.kept p first
      (c.in_ok-state.ensures.sound.kept p first (record { was = h.exit; point = h.exit_is; numbers = h.static; cells = h.cells }))
      (record { call = h.call; is = h.call_is; own = h.own }))
      h.returned;
}
