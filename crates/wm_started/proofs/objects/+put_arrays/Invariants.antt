use Rattle.std.proofs.Common.{length}
use Rattle.wm_started.proofs.objects.+put_arrays.Given as goal

abbrev pub decreases-put_arrays : goal.decreases-put_arrays
decreases-put_arrays l = length l.objects.now
