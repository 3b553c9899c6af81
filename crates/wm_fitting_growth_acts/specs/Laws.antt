-- The laws. What was collected only grows and a fault stays, whatever the names of the scope mean.
use Rattle.std.specs.Prelude.{ℕ, ℤ, List, Option}
use Rattle.wm_lang.specs.declared.expression.Expr.{Expr}
use Rattle.wm_lang.specs.declared.place.Position.{Position}
use Rattle.wm_lang.specs.declared.statement.Initializer.{Initializer}
use Rattle.wm_lang.specs.declared.statement.Simple.{Simple}
use Rattle.wm_ops.specs.declared.operators.Width.{Width}
use Rattle.wm_program.specs.declared.tree.Simple.{Simple as Act}
use Rattle.wm_scope.specs.declared.scope.Scope.{Scope}
use Rattle.wm_body.specs.Declarations.{converted}
use Rattle.wm_body.specs.Lengths.{array_length, constants_in}
use Rattle.wm_body.specs.Simples.{all_simple}
use Rattle.wm_body.specs.Statements.{tested, returned}
use Rattle.wm_fitting_growth.specs.Laws.{Growing}

abbrev pub ActsGrow : Type 0
ActsGrow = (scope : Scope) (found : List Act) (simples : List Simple) → Growing (all_simple scope found simples)

abbrev pub TestsGrow : Type 0
TestsGrow = (scope : Scope) (condition : Option Expr) → Growing (tested condition scope)

abbrev pub ReturnsGrow : Type 0
ReturnsGrow = (scope : Scope) (value : Option Expr) (at : Position) (width : Option Width) → Growing (returned value at width scope)

abbrev pub LengthsGrow : Type 0
LengthsGrow = (scope : Scope) (expression : Option Expr) (count : ℕ) (at : Position) → Growing (array_length scope expression count at)

abbrev pub ConstantsGrow : Type 0
ConstantsGrow = (scope : Scope) (width : Width) (found : List ℤ) (values : List Expr) → Growing (constants_in scope width found values)

abbrev pub ConversionsGrow : Type 0
ConversionsGrow = (scope : Scope) (width : Width) (initial : Option Initializer) → Growing (converted width initial scope)
