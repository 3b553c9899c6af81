use Rattle.std.proofs.Common.{length}
use Rattle.wm_supplied.proofs.inputs.+put_arrays.Given as goal

abbrev pub decreases-put_arrays : goal.decreases-put_arrays
decreases-put_arrays g l = length l.arrays.now
