-- The laws.
use Rattle.wm_fitting_growth.proofs.Forms.{expressions_grow, numbers_grow, conditions_grow, calls_grow}
use Rattle.wm_fitting_growth.proofs.laws.growth_laws.Goals as goal

pub returns : goal.returns
returns c = record { expressions = expressions_grow; numbers = numbers_grow; conditions = conditions_grow; calls = calls_grow }
