-- What the reading of the parts of statements asks of them: no form of structs, and plain expressions.
use Rattle.std.specs.Prelude.{Option, Some, None}
use Rattle.wm_lang.specs.declared.expression.Expr.{Expr}
use Rattle.wm_lang.specs.declared.statement.Initializer.{Initializer}
use Rattle.wm_source.specs.Reading.{source_of}
use Rattle.wm_fitting.specs.Plain.{IsPlain}

abbrev pub IsPlainOption : Option Expr → Type 0
IsPlainOption None = Unit {0}
IsPlainOption (Some expression) = IsPlain (source_of expression)

abbrev pub IsPlainInitial : Option Initializer → Type 0
IsPlainInitial None = Unit {0}
IsPlainInitial (Some initial) = IsPlain (source_of initial.value)
