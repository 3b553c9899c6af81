use Rattle.std.proofs.Common.{◌∙◌, ◌+ℤ◌, ℤ, ap, subst, List}
use Rattle.wm_interval.specs.Holds.{IsHullOf}
use Rattle.wm_spans.specs.Exact.{IsSumValue}
use Rattle.wm_domain.specs.declared.form.Term.{Term}
use Rattle.wm_spans.proofs.Sizes.{read_small}
use Rattle.wm_spans.proofs.Forming.{form_hull}
use Rattle.wm_tied.specs.Pointed.{In}
use Rattle.wm_tied.proofs.tied.Tied.form_range.Goals as goal

pub returns-clause-hull : goal.returns-clause-hull
returns-clause-hull c = λ some. form_hull (In c.args.self.now) c.args.f.now c.terms_range.result c.add.result
    (subst (λ (ts : List Term). IsHullOf (IsSumValue (In c.args.self.now) ts) c.terms_range.result) c.items.ensures.items (c.terms_range.ensures.hull some))
    (c.add.ensures.low ∙ ap (λ (y : ℤ). c.terms_range.result.low +ℤ y) (c.new.ensures.low ∙ read_small c.args.f.now.constant c.requires.form.small))
    (c.add.ensures.high ∙ ap (λ (y : ℤ). c.terms_range.result.high +ℤ y) (c.new.ensures.high ∙ read_small c.args.f.now.constant c.requires.form.small))
