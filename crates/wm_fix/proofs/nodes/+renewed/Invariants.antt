use Rattle.std.proofs.Common.{length}
use Rattle.wm_fix.proofs.nodes.+renewed.Given as goal

abbrev pub decreases-renewed : goal.decreases-renewed
decreases-renewed g l = length l.into.now
