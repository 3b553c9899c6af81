-- The laws.
use Rattle.wm_laid_instances.proofs.Laid.{roots_count, frame_stands, init_stands, functions_there, laid_where_there}
use Rattle.wm_laid_instances.proofs.laws.laid_laws.Goals as goal

pub returns : goal.returns
returns c = record { roots = roots_count; frame = frame_stands; init = init_stands; functions = functions_there; laid = laid_where_there }
