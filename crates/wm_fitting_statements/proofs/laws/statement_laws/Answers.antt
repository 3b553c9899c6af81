-- The laws.
use Rattle.wm_fitting_statements.proofs.Stating.{statements_fit, blocks_fit}
use Rattle.wm_fitting_statements.proofs.Steps.{steps_fit}
use Rattle.wm_fitting_statements.proofs.laws.statement_laws.Goals as goal

pub returns : goal.returns
returns c = record { statements = λ H b depth piece q v. statements_fit H b (Unit {0}) depth piece q v; blocks = λ H b depth pieces q v. blocks_fit H b (Unit {0}) depth pieces q v; steps = steps_fit }
