use Rattle.std.proofs.Common.{length}
use Rattle.wm_drawn.proofs.counters.+is_other.Given as goal

-- proposed from what the function passes where it calls itself
abbrev pub decreases-is_other : goal.decreases-is_other
decreases-is_other l = length l.growths.now
