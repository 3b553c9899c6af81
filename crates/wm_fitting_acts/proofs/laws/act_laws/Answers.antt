-- The laws.
use Rattle.wm_fitting_acts.proofs.Acting.{simple_fits}
use Rattle.wm_fitting_acts.proofs.Dropping.{number_in_fits, condition_in_fits}
use Rattle.wm_fitting_acts.proofs.laws.act_laws.Goals as goal

pub returns : goal.returns
returns c = record { numbers = number_in_fits; conditions = condition_in_fits; simples = simple_fits }
