-- The laws.
use Rattle.wm_fitting_growth_acts.proofs.Acting.{acts_grow}
use Rattle.wm_fitting_growth_acts.proofs.Parts.{tests_grow, returns_grow, lengths_grow, constants_grow, conversions_grow}
use Rattle.wm_fitting_growth_acts.proofs.laws.growth_laws.Goals as goal

pub returns : goal.returns
returns c = record {
  acts = acts_grow;
  tests = tests_grow;
  returns = returns_grow;
  lengths = lengths_grow;
  constants = constants_grow;
  conversions = conversions_grow;
}
