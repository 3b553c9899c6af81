use Rattle.std.proofs.Common.{length}
use Rattle.wm_supplied.proofs.inputs.+put_scalars.Given as goal

abbrev pub decreases-put_scalars : goal.decreases-put_scalars
decreases-put_scalars g l = length l.scalars.now
