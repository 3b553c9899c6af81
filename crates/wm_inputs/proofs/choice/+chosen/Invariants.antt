use Rattle.std.proofs.Common.{length}
use Rattle.wm_inputs.proofs.choice.+chosen.Given as goal

abbrev pub decreases-chosen : goal.decreases-chosen
decreases-chosen l = length l.frames.now
