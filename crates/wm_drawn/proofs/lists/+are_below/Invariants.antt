use Rattle.std.proofs.Common.{length}
use Rattle.wm_drawn.proofs.lists.+are_below.Given as goal

-- proposed from what the function passes where it calls itself
abbrev pub decreases-are_below : goal.decreases-are_below
decreases-are_below l = length l.numbers.now
