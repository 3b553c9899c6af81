use Rattle.std.proofs.Common.{length}
use Rattle.wm_started.proofs.objects.+put_scalars.Given as goal

abbrev pub decreases-put_scalars : goal.decreases-put_scalars
decreases-put_scalars l = length l.objects.now
