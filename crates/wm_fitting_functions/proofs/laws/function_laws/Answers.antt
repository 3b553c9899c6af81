-- The laws.
use Rattle.wm_fitting_functions.proofs.Functions.{functions_fit}
use Rattle.wm_fitting_functions.proofs.laws.function_laws.Goals as goal

pub returns : goal.returns
returns c = record { functions = functions_fit }
