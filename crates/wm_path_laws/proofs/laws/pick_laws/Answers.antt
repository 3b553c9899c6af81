use Rattle.wm_path_laws.proofs.Walks.{picks_the_first}
use Rattle.wm_path_laws.proofs.laws.pick_laws.Goals as goal

pub returns : goal.returns
returns c = record { picks_the_first = picks_the_first }
