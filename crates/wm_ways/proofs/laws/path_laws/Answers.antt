use Rattle.wm_ways.proofs.Paths.{no_path_weighs_more}
use Rattle.wm_ways.proofs.laws.path_laws.Goals as goal

pub returns : goal.returns
returns c = record { no_path_weighs_more = no_path_weighs_more }
