use Rattle.std.proofs.Common.{length}
use Rattle.wm_drawn.proofs.calls.+are_arguments.Given as goal

-- proposed from what the function passes where it calls itself
abbrev pub decreases-are_arguments : goal.decreases-are_arguments
decreases-are_arguments l = length l.arguments.now
