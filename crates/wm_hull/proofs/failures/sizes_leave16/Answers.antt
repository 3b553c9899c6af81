use Rattle.wm_hull.proofs.Telling.{tells16}
use Rattle.wm_hull.proofs.failures.sizes_leave16.Goals as goal

pub returns : goal.returns
returns c = λ y z. tells16 _ c.args.x y z c.sizes.result (c.sizes.ensures y z) c.leaves16.result c.leaves16.ensures
