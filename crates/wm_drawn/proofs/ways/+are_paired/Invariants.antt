use Rattle.std.proofs.Common.{length}
use Rattle.wm_drawn.proofs.ways.+are_paired.Given as goal

-- proposed from what the function passes where it calls itself
abbrev pub decreases-are_paired : goal.decreases-are_paired
decreases-are_paired l = length l.left.now
