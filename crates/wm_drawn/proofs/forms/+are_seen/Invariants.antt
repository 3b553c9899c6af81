use Rattle.std.proofs.Common.{length}
use Rattle.wm_drawn.proofs.forms.+are_seen.Given as goal

-- proposed from what the function passes where it calls itself
abbrev pub decreases-are_seen : goal.decreases-are_seen
decreases-are_seen l = length l.terms.now
