-- Where an expression begins, and what it is by its outermost form, parentheses aside.
use Rattle.std.specs.Prelude.{ℕ, Bool, true, false, List, Option, Some, None}
use Rattle.wm_lang.specs.declared.expression.Expr.{Expr}
use Rattle.wm_lang.specs.declared.expression.Identifier.{Identifier}
use Rattle.wm_lang.specs.declared.expression.UnaryMark.{UnaryMark}
use Rattle.wm_lang.specs.declared.expression.UnaryMark.TheVariants as unary
use Rattle.wm_lang.specs.declared.place.Position.{Position}
use Rattle.wm_source.specs.Source.{Level, Disjunction, Conjunction, Comparisons, Sums, Products, Source, Chain, Unary, Cast, Number, Scalar, Element, Pointed, Member, Call, Parenthesis, AddressOf, AddressOfElement, AddressOfOther}
use Rattle.wm_source.specs.Reading.{source_of}

-- the first token
abbrev pub beginning_of : Source → Position
beginning_of (Chain level at first parts) = at
beginning_of (Unary mark at operand) = at
beginning_of (Cast at to operand) = at
beginning_of (Number at z) = at
beginning_of (Scalar at name) = at
beginning_of (Element at name bracket index) = at
beginning_of (Pointed at star name) = at
beginning_of (Member at object) = at
beginning_of (Call name arguments) = name.at
beginning_of (Parenthesis at inner) = at
beginning_of (AddressOf at name) = at
beginning_of (AddressOfElement at name bracket index) = at
beginning_of (AddressOfOther at object) = at

abbrev pub first_of : Expr → Position
first_of expression = beginning_of (source_of expression)

-- the name that an expression is, parentheses aside
abbrev pub bare_name : Source → Option Identifier
bare_name (Chain level at first parts) = None
bare_name (Unary mark at operand) = None
bare_name (Cast at to operand) = None
bare_name (Number at z) = None
bare_name (Scalar at name) = Some name
bare_name (Element at name bracket index) = None
bare_name (Pointed at star name) = None
bare_name (Member at object) = None
bare_name (Call name arguments) = None
bare_name (Parenthesis at inner) = bare_name inner
bare_name (AddressOf at name) = None
bare_name (AddressOfElement at name bracket index) = None
bare_name (AddressOfOther at object) = None

abbrev pub name_of : Expr → Option Identifier
name_of expression = bare_name (source_of expression)

abbrev pub is_not : UnaryMark → Bool
is_not unary.Minus = false
is_not unary.Plus = false
is_not unary.Not = true

-- a comparison or a logical value, parentheses aside
abbrev pub compares : Level → Bool
compares Disjunction = true
compares Conjunction = true
compares Comparisons = true
compares Sums = false
compares Products = false

abbrev pub holds_truth : Source → Bool
holds_truth (Chain level at first parts) = compares level
holds_truth (Unary mark at operand) = is_not mark
holds_truth (Cast at to operand) = false
holds_truth (Number at z) = false
holds_truth (Scalar at name) = false
holds_truth (Element at name bracket index) = false
holds_truth (Pointed at star name) = false
holds_truth (Member at object) = false
holds_truth (Call name arguments) = false
holds_truth (Parenthesis at inner) = holds_truth inner
holds_truth (AddressOf at name) = false
holds_truth (AddressOfElement at name bracket index) = false
holds_truth (AddressOfOther at object) = false

abbrev pub is_truth_of : Expr → Bool
is_truth_of expression = holds_truth (source_of expression)
