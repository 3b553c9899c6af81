use Rattle.std.proofs.Common.{◌≡◌, ◌∙◌, sym, subst, List}
use Rattle.wm_domain.specs.declared.form.Term.{Term}
use Rattle.wm_domain.specs.Forms.{IsSimple}
use Rattle.wm_spans.proofs.Few.{none_of, one_of}
use Rattle.wm_spans.proofs.Sizes.{read_small}
use Rattle.wm_spans.proofs.Forming.{exactly_left, constant_left, term_left, near_left}
use Rattle.wm_spans.proofs.spans.Spans.set_form.Goals as goal

pub returns-in-None : goal.returns-in-None
returns-in-None c = record {
  leaves = constant_left c.args.self.now c.free.new.self c.args.v c.args.f.now c.new-constant.result (sym c.items.ensures.items ∙ none_of c.items.result.now c.in-None.ensures.cases)
      (c.new-constant.ensures.low ∙ read_small c.args.f.now.constant c.requires.form.small) (c.new-constant.ensures.high ∙ read_small c.args.f.now.constant c.requires.form.small)
      (exactly_left c.args.self.now c.free.new.self _ c.free.ensures.full c.free.ensures.array_full c.free.ensures.points);
}

pub returns-in-Some : goal.returns-in-Some
returns-in-Some c = record {
  leaves = term_left c.args.self.now c.set_near.new.self c.args.v c.args.f.now _ c.new-constant.result c.full_range-full.result c.requires.inside
      (sym c.items.ensures.items ∙ one_of _ _ _ (subst IsSimple (sym c.items.ensures.items) c.requires.simple) c.in-Some.ensures.cases.0)
      (c.new-constant.ensures.low ∙ read_small c.args.f.now.constant c.requires.form.small) (c.new-constant.ensures.high ∙ read_small c.args.f.now.constant c.requires.form.small) c.full_range-full.ensures.value
      (near_left c.args.self.now c.set_near.new.self c.args.v _ c.new-constant.result c.full_range-full.result c.set_near.ensures.full c.set_near.ensures.array_full c.set_near.ensures.kept c.set_near.ensures.spanned);
}
