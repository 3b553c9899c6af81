use Rattle.std.proofs.Common.{◌∙◌, sym}
use Rattle.wm_calls.proofs.Repeating.{same_marks}
use Rattle.wm_calls.proofs.rounds.are_alike.Goals as goal

pub returns : goal.returns
returns c = λ h. same_marks c.args.one.now c.args.other.now (sym h ∙ c.eq.ensures)
