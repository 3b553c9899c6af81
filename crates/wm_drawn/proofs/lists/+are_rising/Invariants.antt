use Rattle.std.proofs.Common.{length}
use Rattle.wm_drawn.proofs.lists.+are_rising.Given as goal

-- proposed from what the function passes where it calls itself
abbrev pub decreases-are_rising : goal.decreases-are_rising
decreases-are_rising l = length l.picks.now
