use Rattle.std.proofs.Common.{sym, ◌∙◌}
use Rattle.wm_boxes.proofs.Others.{bare_of_empty, summary_told}
use Rattle.wm_boxes.proofs.boxes.BoxesDomain.array.Goals as goal

pub returns-then-is_empty : goal.returns-then-is_empty
returns-then-is_empty c = record { exact = bare_of_empty c.args.self.now.spans (sym c.is_empty.ensures.value ∙ c.if-is_empty.true) }

pub returns : goal.returns
returns c = record { exact = summary_told c.args.self.now.spans c.array.ensures.kept (sym c.is_empty.ensures.value ∙ c.if-is_empty.false) c.args.a c.requires.inside c.array.result c.array.ensures.value }
