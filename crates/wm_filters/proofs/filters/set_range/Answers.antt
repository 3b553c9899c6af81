use Rattle.std.proofs.Common.{sym, subst}
use Rattle.wm_domain.specs.declared.shape.Shape.{Shape}
use Rattle.wm_domain.specs.States.{InShape}
use Rattle.wm_domain.proofs.Moving.{same_but_all}
use Rattle.wm_filters.proofs.filters.set_range.Goals as goal

pub returns-clause-kept : goal.returns-clause-kept
returns-clause-kept g c = λ p i h k. c.assign_range.ensures.sound.kept p (subst (λ (x : Shape). InShape x p) (sym c.assign_range.ensures.shape) i) (record { was = p; point = h; others = same_but_all c.args.v p; value = k })
