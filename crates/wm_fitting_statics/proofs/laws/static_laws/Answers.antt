-- The laws.
use Rattle.wm_fitting_statics.proofs.Counting.{blocks_count, functions_count}
use Rattle.wm_fitting_statics.proofs.laws.static_laws.Goals as goal

pub returns : goal.returns
returns c = record { blocks = blocks_count; functions = functions_count }
