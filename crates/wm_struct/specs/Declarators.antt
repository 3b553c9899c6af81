-- The two forms of a declarator.
use Rattle.std.specs.Prelude.{Bool, Option, Some, None}
use Rattle.wm_lang.specs.declared.place.Position.{Position}
use Rattle.wm_lang.specs.declared.expression.Identifier.{Identifier}
use Rattle.wm_lang.specs.declared.expression.Expr.{Expr}
use Rattle.wm_lang.specs.declared.statement.Initializer.{Initializer}
use Rattle.wm_lang.specs.declared.statement.InitializerList.{InitializerList}
use Rattle.wm_lang.specs.declared.statement.Declarator.{Declarator}
use Rattle.wm_lang.specs.declared.statement.Declarator.TheVariants as declarator
use Rattle.wm_members.specs.Expressions.{expanded}
use Rattle.wm_members.specs.Making.{Making, ◌>>=◌, pure, after, maybe}
use Rattle.wm_struct.specs.declared.declaration.Parts.{Parts}
use Rattle.wm_struct.specs.Statements.{initializer_made, list_made, declared_local}

abbrev pub scalar_made : Bool → Identifier → Option Initializer → Making Declarator
scalar_made is_local name initial =
    after (declared_local is_local name) (maybe initializer_made initial >>= λ i. pure (declarator.Scalar name i))

-- the name of an array, and its list
abbrev pub parts_made : Bool → Identifier → Option InitializerList → Making Parts
parts_made is_local name initial =
    after (declared_local is_local name) (maybe list_made initial >>= λ i. pure (record { name = name; initial = i }))

abbrev pub array_made : Bool → Identifier → Position → Option Expr → Option InitializerList → Making Declarator
array_made is_local name bracket length initial =
    maybe expanded length >>= λ l. after (declared_local is_local name) (maybe list_made initial >>= λ i. pure (declarator.Array name bracket l i))
