use Rattle.std.proofs.Common.{sym, ◌∙◌}
use Rattle.wm_boxes.proofs.Others.{bare_of_empty}
use Rattle.wm_boxes.specs.Laws.{of_form}
use Rattle.wm_boxes.proofs.boxes.BoxesDomain.form.Goals as goal

pub form_range-requires : goal.form_range-requires
form_range-requires c = record { form = of_form c.args.self.now.group c.args.self.now.spans c.args.f.now c.requires.form }

pub returns-then-is_empty : goal.returns-then-is_empty
returns-then-is_empty c = record { exact = bare_of_empty c.args.self.now.spans (sym c.is_empty.ensures.value ∙ c.if-is_empty.true) }

pub returns : goal.returns
returns c = record { exact = c.form_range.ensures.hull (sym c.is_empty.ensures.value ∙ c.if-is_empty.false) }
