use Rattle.std.proofs.Common.{length}
use Rattle.wm_drawn.proofs.shapes.+are_narrow.Given as goal

-- proposed from what the function passes where it calls itself
abbrev pub decreases-are_narrow : goal.decreases-are_narrow
decreases-are_narrow l = length l.ranges.now
