use Rattle.std.proofs.Common.{ap, sym, ◌∙◌}
use Rattle.wm_marks.specs.Marking.{has}
use Rattle.wm_marks.proofs.Sets.{has-any}
use Rattle.wm_marks.proofs.taken.Taken.has.Goals as goal

pub returns : goal.returns
returns c = record { among = c.contains.ensures ∙ sym (has-any c.args.number c.self.inside.numbers.keys) ∙ ap (has c.args.number) c.self.view_is }
