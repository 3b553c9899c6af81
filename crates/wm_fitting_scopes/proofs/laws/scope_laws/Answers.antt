-- The laws.
use Rattle.wm_fitting_scopes.proofs.Meanings.{locals_fit, objects_fit, parameters_fit}
use Rattle.wm_fitting_scopes.proofs.Scopes.{declared_fit, opened_fit, left_as_entered}
use Rattle.wm_fitting_scopes.proofs.laws.scope_laws.Goals as goal

pub returns : goal.returns
returns c = record {
  declared = declared_fit;
  opened = opened_fit;
  left = left_as_entered;
  locals = locals_fit;
  objects = objects_fit;
  parameters = parameters_fit;
}
