-- What the next token is to an expression.
use Rattle.std.specs.Prelude.{ℕ, ◌==◌, if◌then◌else◌, Option, Some, None}
use Rattle.wm_lang.specs.declared.expression.BaseType.{BaseType}
use Rattle.wm_lang.specs.declared.expression.BaseType.TheVariants as base
use Rattle.wm_lang.specs.declared.expression.EqualityMark.TheVariants as equality
use Rattle.wm_lang.specs.declared.expression.MemberMark.TheVariants as member
use Rattle.wm_lang.specs.declared.expression.ProductMark.TheVariants as product
use Rattle.wm_lang.specs.declared.expression.RelationMark.TheVariants as relation
use Rattle.wm_lang.specs.declared.expression.SumMark.TheVariants as sum
use Rattle.wm_lang.specs.declared.expression.UnaryMark.TheVariants as unary
use Rattle.wm_lang.specs.declared.token.Key.{Key}
use Rattle.wm_lang.specs.declared.token.Key.TheVariants as key
use Rattle.wm_lang.specs.declared.token.Punct.{Punct}
use Rattle.wm_lang.specs.declared.token.Punct.TheVariants as punct
use Rattle.wm_cursor.specs.declared.operator.Binary.{Binary}
use Rattle.wm_cursor.specs.declared.operator.Binary.TheVariants as binary
use Rattle.wm_cursor.specs.declared.operator.Joint.{Joint}
use Rattle.wm_cursor.specs.declared.operator.Joint.TheVariants as joint
use Rattle.wm_cursor.specs.declared.operator.Start.{Start}
use Rattle.wm_cursor.specs.declared.operator.Start.TheVariants as start
use Rattle.wm_cursor.specs.declared.token.Next.{Next}
use Rattle.wm_cursor.specs.declared.token.Next.TheVariants as next

-- ---- what an operand begins with

abbrev pub start_at : Punct → Start
start_at punct.Minus = start.Sign unary.Minus
start_at punct.Plus = start.Sign unary.Plus
start_at punct.Not = start.Sign unary.Not
start_at punct.LeftParenthesis = start.Parenthesis
start_at punct.Star = start.Star
start_at punct.Ampersand = start.Ampersand
start_at _ = start.Other

unfoldable pub start_of : Next → Start
start_of next.End = start.Other
start_of next.Name = start.Name
start_of (next.Number value) = start.Number value
start_of (next.Key key) = start.Other
start_of (next.Mark mark) = start_at mark

-- ---- what goes on behind a name

abbrev pub joint_at : Punct → Joint
joint_at punct.LeftBracket = joint.Bracket
joint_at punct.Dot = joint.Member member.Dot
joint_at punct.Arrow = joint.Member member.Arrow
joint_at _ = joint.Other

unfoldable pub joint_of : Next → Joint
joint_of next.End = joint.Other
joint_of next.Name = joint.Other
joint_of (next.Number value) = joint.Other
joint_of (next.Key key) = joint.Other
joint_of (next.Mark mark) = joint_at mark

-- ---- operators between two operands

abbrev pub binary_at : Punct → Option Binary
binary_at punct.Or = Some binary.Or
binary_at punct.And = Some binary.And
binary_at punct.Equal = Some (binary.Equality equality.Equal)
binary_at punct.NotEqual = Some (binary.Equality equality.NotEqual)
binary_at punct.Less = Some (binary.Relation relation.Less)
binary_at punct.LessEqual = Some (binary.Relation relation.LessEqual)
binary_at punct.Greater = Some (binary.Relation relation.Greater)
binary_at punct.GreaterEqual = Some (binary.Relation relation.GreaterEqual)
binary_at punct.Plus = Some (binary.Sum sum.Plus)
binary_at punct.Minus = Some (binary.Sum sum.Minus)
binary_at punct.Star = Some (binary.Product product.Times)
binary_at punct.Slash = Some (binary.Product product.Divide)
binary_at _ = None

-- how loosely an operator binds
abbrev pub level_of : Binary → ℕ
level_of (binary.Product mark) = 1
level_of (binary.Sum mark) = 2
level_of (binary.Relation mark) = 3
level_of (binary.Equality mark) = 4
level_of binary.And = 5
level_of binary.Or = 6

abbrev pub at_level : ℕ → Binary → Option Binary
at_level level found = if level_of found == level then Some found else None

abbrev pub leveled : ℕ → Option Binary → Option Binary
leveled level None = None
leveled level (Some found) = at_level level found

-- the operator of this level that comes next
unfoldable pub binary_of : ℕ → Next → Option Binary
binary_of level next.End = None
binary_of level next.Name = None
binary_of level (next.Number value) = None
binary_of level (next.Key key) = None
binary_of level (next.Mark mark) = leveled level (binary_at mark)

-- ---- types

abbrev pub base_at : Key → Option BaseType
base_at key.Word16 = Some base.Word16
base_at key.Word32 = Some base.Word32
base_at key.Flag = Some base.Flag
base_at key.Int = Some base.Int
base_at _ = None

-- the type that comes next
unfoldable pub base_of : Next → Option BaseType
base_of next.End = None
base_of next.Name = None
base_of (next.Number value) = None
base_of (next.Key key) = base_at key
base_of (next.Mark mark) = None
