-- What the reading of a declaration asks of it: plain expressions without forms of structs.
use Rattle.std.specs.Prelude.{Option, Some, None}
use Rattle.std.specs.List.{All}
use Rattle.wm_lang.specs.declared.expression.Expr.{Expr}
use Rattle.wm_lang.specs.declared.statement.Declaration.{Declaration}
use Rattle.wm_lang.specs.declared.statement.Declarator.{Declarator}
use Rattle.wm_lang.specs.declared.statement.Declarator.TheVariants as declarator
use Rattle.wm_lang.specs.declared.statement.InitializerList.{InitializerList}
use Rattle.wm_fitting_parts.specs.PlainParts.{IsPlainOption, IsPlainInitial}

abbrev pub IsPlainValue : Expr → Type 0
IsPlainValue value = IsPlainOption (Some value)

abbrev pub IsPlainList : Option InitializerList → Type 0
IsPlainList None = Unit {0}
IsPlainList (Some list) = All IsPlainValue list.values

abbrev pub IsPlainDeclarator : Declarator → Type 0
IsPlainDeclarator (declarator.Scalar name initial) = IsPlainInitial initial
IsPlainDeclarator (declarator.Array name bracket length initial) = IsPlainOption length × IsPlainList initial

abbrev pub IsPlainDeclaration : Declaration → Type 0
IsPlainDeclaration it = All IsPlainDeclarator it.declarators
