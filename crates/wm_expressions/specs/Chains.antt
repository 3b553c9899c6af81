-- A chain of operators of one level is one node: each operator with the operand behind it goes to its end.
use Rattle.std.specs.Prelude.{[], ◌∷◌, ◌++◌}
use Rattle.wm_lang.specs.declared.expression.Chain.{Chain}
use Rattle.wm_lang.specs.declared.expression.EqualityMark.{EqualityMark}
use Rattle.wm_lang.specs.declared.expression.Expr.{Expr, out-Expr}
use Rattle.wm_lang.specs.declared.expression.Expr.TheOpen.{Expr-F}
use Rattle.wm_lang.specs.declared.expression.Expr.TheVariants as e
use Rattle.wm_lang.specs.declared.expression.Part.{Part}
use Rattle.wm_lang.specs.declared.expression.ProductMark.{ProductMark}
use Rattle.wm_lang.specs.declared.expression.RelationMark.{RelationMark}
use Rattle.wm_lang.specs.declared.expression.SumMark.{SumMark}
use Rattle.wm_lang.specs.declared.place.Position.{Position}
use Rattle.wm_cursor.specs.declared.operator.Binary.{Binary}
use Rattle.wm_cursor.specs.declared.operator.Binary.TheVariants as binary

-- a chain of two operands
abbrev pub chain_of : {M : Type 0} → Position → Expr → Part M Expr → Chain M Expr
chain_of at first part = record { at = at; first = first; rest = part ∷ [] }

abbrev pub longer : {M : Type 0} → Chain M Expr → Part M Expr → Chain M Expr
longer chain part = record { at = chain.at; first = chain.first; rest = chain.rest ++ part ∷ [] }

abbrev pub or_by : Position → Expr → Part (Unit {0}) Expr → Expr-F Expr → Expr
or_by at left part (Expr-F.Or chain) = e.Or (longer chain part)
or_by at left part _ = e.Or (chain_of at left part)

unfoldable pub or : Position → Expr → Part (Unit {0}) Expr → Expr
or at left part = or_by at left part (out-Expr left)

abbrev pub and_by : Position → Expr → Part (Unit {0}) Expr → Expr-F Expr → Expr
and_by at left part (Expr-F.And chain) = e.And (longer chain part)
and_by at left part _ = e.And (chain_of at left part)

unfoldable pub and : Position → Expr → Part (Unit {0}) Expr → Expr
and at left part = and_by at left part (out-Expr left)

abbrev pub equality_by : Position → Expr → Part EqualityMark Expr → Expr-F Expr → Expr
equality_by at left part (Expr-F.Equality chain) = e.Equality (longer chain part)
equality_by at left part _ = e.Equality (chain_of at left part)

unfoldable pub equality : Position → Expr → Part EqualityMark Expr → Expr
equality at left part = equality_by at left part (out-Expr left)

abbrev pub relation_by : Position → Expr → Part RelationMark Expr → Expr-F Expr → Expr
relation_by at left part (Expr-F.Relation chain) = e.Relation (longer chain part)
relation_by at left part _ = e.Relation (chain_of at left part)

unfoldable pub relation : Position → Expr → Part RelationMark Expr → Expr
relation at left part = relation_by at left part (out-Expr left)

abbrev pub sum_by : Position → Expr → Part SumMark Expr → Expr-F Expr → Expr
sum_by at left part (Expr-F.Sum chain) = e.Sum (longer chain part)
sum_by at left part _ = e.Sum (chain_of at left part)

unfoldable pub sum : Position → Expr → Part SumMark Expr → Expr
sum at left part = sum_by at left part (out-Expr left)

abbrev pub product_by : Position → Expr → Part ProductMark Expr → Expr-F Expr → Expr
product_by at left part (Expr-F.Product chain) = e.Product (longer chain part)
product_by at left part _ = e.Product (chain_of at left part)

unfoldable pub product : Position → Expr → Part ProductMark Expr → Expr
product at left part = product_by at left part (out-Expr left)

-- what was read from `start` on, and the operator and operand behind it
abbrev pub joined : Position → Expr → Binary → Position → Expr → Expr
joined start left binary.Or at operand = or start left (record { mark = tt; at = at; operand = operand })
joined start left binary.And at operand = and start left (record { mark = tt; at = at; operand = operand })
joined start left (binary.Equality mark) at operand = equality start left (record { mark = mark; at = at; operand = operand })
joined start left (binary.Relation mark) at operand = relation start left (record { mark = mark; at = at; operand = operand })
joined start left (binary.Sum mark) at operand = sum start left (record { mark = mark; at = at; operand = operand })
joined start left (binary.Product mark) at operand = product start left (record { mark = mark; at = at; operand = operand })
