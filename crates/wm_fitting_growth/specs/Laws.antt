-- The laws. What was collected only grows and a fault stays, whatever the names of the scope mean.
use Rattle.std.specs.Prelude.{Bool}
use Rattle.wm_lang.specs.declared.expression.Call.{Call}
use Rattle.wm_lang.specs.declared.expression.Expr.{Expr}
use Rattle.wm_scope.specs.declared.scope.Scope.{Scope}
use Rattle.wm_source.specs.Source.{Source}
use Rattle.wm_marks.specs.declared.marks.Marks.{Marks}
use Rattle.wm_marks.specs.Marking.{Marking}
use Rattle.wm_value.specs.Needs.{number_in, condition_in, call_in}
use Rattle.wm_value.specs.Values.{settled, form_in}
use Rattle.wm_fitting.specs.Fitting.{Grows}

abbrev pub Growing : {A : Type 0} → Marking A → Type 0
Growing p = (m : Marks) → Grows m (p m).1

abbrev pub ExpressionsGrow : Type 0
ExpressionsGrow = (scope : Scope) (source : Source) (wants : Bool) → Growing (settled source (form_in scope wants source))

abbrev pub NumbersGrow : Type 0
NumbersGrow = (scope : Scope) (expression : Expr) → Growing (number_in scope expression)

abbrev pub ConditionsGrow : Type 0
ConditionsGrow = (scope : Scope) (expression : Expr) → Growing (condition_in scope expression)

abbrev pub CallsGrow : Type 0
CallsGrow = (scope : Scope) (call : Call Expr) → Growing (call_in scope call)
