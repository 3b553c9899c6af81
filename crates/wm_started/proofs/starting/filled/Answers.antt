use Rattle.std.proofs.Common.{sym, subst}
use Rattle.wm_domain.specs.declared.shape.Shape.{Shape}
use Rattle.wm_domain.specs.States.{InShape}
use Rattle.wm_started.proofs.Filled.{blank, blank_unset, blank_inside, filled_image}
use Rattle.wm_started.proofs.starting.filled.Goals as goal

pub returns-clause-sound : goal.returns-clause-sound
returns-clause-sound g c = λ p i held cells unset.
    let s = c.args.shape.now in
    let has = c.in_ok-any.ensures.sound.kept (blank p) (subst (λ (x : Shape). InShape x (blank p)) (sym c.in_ok-any.ensures.shape) (blank_inside s p i)) (blank_unset s p) in
    c.in_ok-state.ensures.sound.kept p (subst (λ (x : Shape). InShape x p) (sym c.in_ok-state.ensures.shape) i)
    (filled_image s (g.D.Domain.holds c.in_ok-any.any) c.args.scalars.now c.args.arrays.now p has held cells unset)
