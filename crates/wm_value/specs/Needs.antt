-- Expressions where a number or a condition is needed, and calls by themselves.
use Rattle.std.specs.Prelude.{[], true, false}
use Rattle.wm_lang.specs.declared.expression.Call.{Call}
use Rattle.wm_lang.specs.declared.expression.Expr.{Expr as Written}
use Rattle.wm_program.specs.declared.tree.Condition.{Condition}
use Rattle.wm_program.specs.declared.tree.Expr.{Expr}
use Rattle.wm_scope.specs.declared.scope.Scope.{Scope}
use Rattle.wm_scope.specs.Scopes.{meaning_of}
use Rattle.wm_source.specs.Firsts.{first_of}
use Rattle.wm_source.specs.Written.{written_sources}
use Rattle.wm_marks.specs.Marking.{Marking, ◌>>=◌}
use Rattle.wm_value.specs.declared.form.Value.{Value}
use Rattle.wm_value.specs.Kinds.{number_of, condition_of}
use Rattle.wm_value.specs.Values.{value_in, called_by, operands_in, passed_in}

unfoldable pub number_in : Scope → Written → Marking Expr
number_in scope expression = value_in scope false expression >>= number_of (first_of expression)

unfoldable pub condition_in : Scope → Written → Marking Condition
condition_in scope expression = value_in scope false expression >>= condition_of (first_of expression)

unfoldable pub call_in : Scope → Call Written → Marking Value
call_in scope call =
    called_by scope call.name (written_sources call.arguments)
    (λ op. operands_in scope op [] (written_sources call.arguments))
    (λ slots. passed_in scope slots [] (written_sources call.arguments))
    (meaning_of call.name.name scope)
