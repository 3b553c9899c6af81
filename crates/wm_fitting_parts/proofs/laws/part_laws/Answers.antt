-- The laws.
use Rattle.wm_fitting_parts.proofs.Behind.{acts_fit, tests_fit}
use Rattle.wm_fitting_parts.proofs.Lengths.{lengths_fit, constants_fit, objects_fit}
use Rattle.wm_fitting_parts.proofs.Returns.{returns_fit, conversions_fit}
use Rattle.wm_fitting_parts.proofs.laws.part_laws.Goals as goal

pub returns : goal.returns
returns c = record {
  acts = acts_fit;
  tests = tests_fit;
  returns = returns_fit;
  lengths = lengths_fit;
  constants = constants_fit;
  conversions = conversions_fit;
  objects = objects_fit;
}
