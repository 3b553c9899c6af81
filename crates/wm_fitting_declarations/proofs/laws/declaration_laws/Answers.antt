-- The laws.
use Rattle.wm_fitting_declarations.proofs.Declaring.{declarations_fit}
use Rattle.wm_fitting_declarations.proofs.Static.{object_reads}
use Rattle.wm_fitting_declarations.proofs.laws.declaration_laws.Goals as goal

pub returns : goal.returns
returns c = record {
  declarations = λ H b it q inside v. declarations_fit H b (Unit {0}) it q inside v;
  objects = λ H width is_const it q v. object_reads width is_const it q v;
}
