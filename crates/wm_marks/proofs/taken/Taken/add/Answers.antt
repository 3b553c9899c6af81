use Rattle.std.proofs.Common.{ap, ◌∙◌}
use Rattle.wm_marks.specs.Marking.{with_number}
use Rattle.wm_marks.proofs.Sets.{with-insert}
use Rattle.wm_marks.proofs.taken.Taken.add.Goals as goal

pub returns : goal.returns
returns c = record { added = c.in_ok-insert.ensures.keys ∙ with-insert c.args.number c.self.inside.numbers.keys ∙ ap (with_number c.args.number) c.self.view_is }
