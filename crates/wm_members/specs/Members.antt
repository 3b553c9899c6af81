-- The members of structs.
use Rattle.std.specs.Prelude.{Option, Some, None}
use Rattle.wm_lang.specs.declared.place.Position.{Position}
use Rattle.wm_lang.specs.declared.expression.BaseType.{BaseType}
use Rattle.wm_lang.specs.declared.expression.Identifier.{Identifier}
use Rattle.wm_lang.specs.declared.expression.Expr.{Expr}

-- a member; a scalar has no bracket and no length
pub record StructMember : Type 0 where
  pub name : Identifier
  pub base : BaseType
  pub bracket : Option Position
  pub length : Option Expr

abbrev pub scalar_member : Identifier → BaseType → StructMember
scalar_member name base = record { name = name; base = base; bracket = None; length = None }

abbrev pub array_member : Identifier → BaseType → Position → Expr → StructMember
array_member name base bracket length = record { name = name; base = base; bracket = Some bracket; length = Some length }
