use Rattle.std.proofs.Common.{length}
use Rattle.wm_drawn.proofs.acts.+are_forms.Given as goal

-- proposed from what the function passes where it calls itself
abbrev pub decreases-are_forms : goal.decreases-are_forms
decreases-are_forms l = length l.args.now
