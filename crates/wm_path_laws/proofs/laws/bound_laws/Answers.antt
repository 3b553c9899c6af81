use Rattle.wm_path_laws.proofs.Telling.{tells_the_bound}
use Rattle.wm_path_laws.proofs.laws.bound_laws.Goals as goal

pub returns : goal.returns
returns c = record { tells_the_bound = tells_the_bound }
