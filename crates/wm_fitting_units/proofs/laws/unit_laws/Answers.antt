-- The laws.
use Rattle.wm_fitting_units.proofs.Units.{units_fit}
use Rattle.wm_fitting_units.proofs.laws.unit_laws.Goals as goal

pub returns : goal.returns
returns c = record { units = units_fit }
