use Rattle.std.proofs.Common.{length}
use Rattle.wm_fix.proofs.nodes.+gathered.Given as goal

abbrev pub decreases-gathered : goal.decreases-gathered
decreases-gathered g l = length l.into.now
