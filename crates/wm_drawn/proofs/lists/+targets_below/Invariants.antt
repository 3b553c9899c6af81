use Rattle.std.proofs.Common.{length}
use Rattle.wm_drawn.proofs.lists.+targets_below.Given as goal

-- proposed from what the function passes where it calls itself
abbrev pub decreases-targets_below : goal.decreases-targets_below
decreases-targets_below l = length l.given.now
