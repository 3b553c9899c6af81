use Rattle.wm_hull.proofs.Telling.{tells32}
use Rattle.wm_hull.proofs.failures.sizes_leave32.Goals as goal

pub returns : goal.returns
returns c = λ y z. tells32 _ c.args.x y z c.sizes.result (c.sizes.ensures y z) c.leaves32.result c.leaves32.ensures
