use Rattle.wm_growing.proofs.Lesser.{join_grows}
use Rattle.wm_growing.proofs.laws.smaller_join.Goals as goal

pub returns : goal.returns
returns g c = join_grows _ g.D.Domain.holds g.D.Domain.shape_of
