use Rattle.std.proofs.Common.{length}
use Rattle.wm_drawn.proofs.counters.+are_counters.Given as goal

-- proposed from what the function passes where it calls itself
abbrev pub decreases-are_counters : goal.decreases-are_counters
decreases-are_counters l = length l.growths.now
