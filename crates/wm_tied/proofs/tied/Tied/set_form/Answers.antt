use Rattle.std.proofs.Common.{◌≡◌, ◌∙◌, sym, subst, List}
use Rattle.wm_domain.specs.declared.form.Term.{Term}
use Rattle.wm_domain.specs.Forms.{IsSimple}
use Rattle.wm_spans.proofs.Few.{none_of, one_of}
use Rattle.wm_spans.proofs.Sizes.{read_small}
use Rattle.wm_tied.proofs.Bounding.{exactly_left}
use Rattle.wm_tied.proofs.Nearing.{constant_left, term_left}
use Rattle.wm_tied.proofs.tied.Tied.set_form.Goals as goal

pub returns-in-None-clause-left : goal.returns-in-None-clause-left
returns-in-None-clause-left c = constant_left c.args.self.now c.free.new.self c.args.v c.args.f.now c.new-constant.result (sym c.items.ensures.items ∙ none_of c.items.result.now c.in-None.ensures.cases)
    (c.new-constant.ensures.low ∙ read_small c.args.f.now.constant c.requires.form.small) (c.new-constant.ensures.high ∙ read_small c.args.f.now.constant c.requires.form.small)
    (exactly_left c.free.new.self _ c.free.ensures.points)

pub returns-in-Some-clause-left : goal.returns-in-Some-clause-left
returns-in-Some-clause-left c = term_left c.args.self.now c.set_near.new.self c.args.v c.args.f.now _ c.new-constant.result c.full_range-full.result c.set_near.ensures.alike c.requires.inside
    (sym c.items.ensures.items ∙ one_of _ _ _ (subst IsSimple (sym c.items.ensures.items) c.requires.simple) c.in-Some.ensures.cases.0)
    (c.new-constant.ensures.low ∙ read_small c.args.f.now.constant c.requires.form.small) (c.new-constant.ensures.high ∙ read_small c.args.f.now.constant c.requires.form.small) c.full_range-full.ensures.value c.set_near.ensures.left
