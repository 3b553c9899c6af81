-- The values of constant expressions: exact, and each value on the way lies in 32 bits.
use Rattle.std.specs.Prelude.{ℕ, Bool, true, false, not, if◌then◌else◌, ◌||◌, ℤ, pos, negsuc, int_lt, neg_ℤ, ◌+ℤ◌, ◌-ℤ◌, ◌*ℤ◌, int_div, Option, Some, None}
use Rattle.std.specs.Ordering.{int_eq}
use Rattle.wm_ops.specs.Parts.{low_half}
use Rattle.wm_lang.specs.declared.expression.BaseType.{BaseType}
use Rattle.wm_lang.specs.declared.expression.BaseType.TheVariants as base
use Rattle.wm_lang.specs.declared.expression.Expr.{Expr}
use Rattle.wm_lang.specs.declared.expression.UnaryMark.{UnaryMark}
use Rattle.wm_lang.specs.declared.expression.UnaryMark.TheVariants as unary
use Rattle.wm_ops.specs.declared.operators.Width.{Width}
use Rattle.wm_ops.specs.declared.operators.Width.TheVariants.{W16, W32}
use Rattle.wm_source.specs.Source.{Mark, Either, Both, Equal, NotEqual, Less, LessEqual, Greater, GreaterEqual, Plus, Minus, Times, Divide, Level, Disjunction, Conjunction, Comparisons, Sums, Products, Source, Chain, Unary, Cast, Number, Scalar, Element, Pointed, Member, Call, Parenthesis, AddressOf, AddressOfElement, AddressOfOther, Parts, End, Part}
use Rattle.wm_source.specs.Reading.{source_of}

abbrev pub width_of : BaseType → Width
width_of base.Word16 = W16
width_of base.Word32 = W32
width_of base.Flag = W32
width_of base.Int = W32

-- a number of the type that a cast gives: to 16 bits the low half
abbrev pub wrapped : Width → ℤ → ℤ
wrapped W16 z = low_half z
wrapped W32 z = z

abbrev pub within32 : ℤ → Option ℤ
within32 z = if int_lt z (negsuc 2147483647) || int_lt (pos 2147483647) z then None else Some z

abbrev pub and_also : {A B : Type 0} → Option A → (A → Option B) → Option B
and_also None f = None
and_also (Some x) f = f x

-- a value and an operator's result
abbrev pub operated : Mark → ℤ → ℤ → Option ℤ
operated Plus a b = within32 (a +ℤ b)
operated Minus a b = within32 (a -ℤ b)
operated Times a b = within32 (a *ℤ b)
operated Divide a b = if int_eq b (pos 0) then None else within32 (int_div a b)
operated Either a b = None
operated Both a b = None
operated Equal a b = None
operated NotEqual a b = None
operated Less a b = None
operated LessEqual a b = None
operated Greater a b = None
operated GreaterEqual a b = None

abbrev pub signed : UnaryMark → ℤ → Option ℤ
signed unary.Minus z = within32 (neg_ℤ z)
signed unary.Plus z = Some z
signed unary.Not z = None

abbrev mutual
  -- the value of a constant expression; none of any other
  pub value_of : Source → Option ℤ
  value_of (Chain Disjunction at first parts) = None
  value_of (Chain Conjunction at first parts) = None
  value_of (Chain Comparisons at first parts) = None
  value_of (Chain Sums at first parts) = and_also (value_of first) (λ z. value_on z parts)
  value_of (Chain Products at first parts) = and_also (value_of first) (λ z. value_on z parts)
  value_of (Unary mark at operand) = and_also (value_of operand) (signed mark)
  value_of (Cast at to operand) = and_also (value_of operand) (λ z. Some (wrapped (width_of to) z))
  value_of (Number at z) = within32 z
  value_of (Scalar at name) = None
  value_of (Element at name bracket index) = None
  value_of (Pointed at star name) = None
  value_of (Member at object) = None
  value_of (Call name arguments) = None
  value_of (Parenthesis at inner) = value_of inner
  value_of (AddressOf at name) = None
  value_of (AddressOfElement at name bracket index) = None
  value_of (AddressOfOther at object) = None

  -- the value of a chain from its first part on
  pub value_on : ℤ → Parts → Option ℤ
  value_on z End = Some z
  value_on z (Part mark at operand rest) = and_also (value_of operand) (λ w. and_also (operated mark z w) (λ v. value_on v rest))

abbrev pub constant_of : Expr → Option ℤ
constant_of expression = value_of (source_of expression)
