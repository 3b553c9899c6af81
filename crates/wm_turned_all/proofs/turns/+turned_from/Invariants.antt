use Rattle.std.proofs.Common.{length}
use Rattle.wm_turned_all.proofs.turns.+turned_from.Given as goal

abbrev pub decreases-turned_from : goal.decreases-turned_from
decreases-turned_from g l = length l.growths.now
