use Rattle.std.proofs.Common.{sym, subst}
use Rattle.wm_domain.specs.declared.shape.Shape.{Shape}
use Rattle.wm_domain.specs.States.{InShape}
use Rattle.wm_domain.proofs.Moving.{same_but_all}
use Rattle.wm_filters.proofs.filters.put_form.Goals as goal

pub returns-clause-kept : goal.returns-clause-kept
returns-clause-kept g c = λ p i h k. c.assign_form.ensures.sound.kept p (subst (λ (x : Shape). InShape x p) (sym c.assign_form.ensures.shape) i) (record { was = p; point = h; others = same_but_all c.args.v p; value = k })
