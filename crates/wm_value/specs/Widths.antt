-- The type of an expression, and what is known of it before it is read.
use Rattle.std.specs.Prelude.{ℕ, suc, ℤ, pos, negsuc, int_lt, ◌||◌, Bool, true, false, if◌then◌else◌, ◌==◌, nat_lt, List, [], ◌∷◌, ◌++◌, length, Option, Some, None, slice_get}
use Rattle.std.specs.Option.{option_map_or}
use Rattle.wm_lang.specs.declared.expression.BaseType.{BaseType}
use Rattle.wm_lang.specs.declared.expression.Expr.{Expr as Written}
use Rattle.wm_lang.specs.declared.expression.Identifier.{Identifier}
use Rattle.wm_lang.specs.declared.expression.SpotKind.{SpotKind}
use Rattle.wm_lang.specs.declared.expression.SpotKind.TheVariants as spots
use Rattle.wm_lang.specs.declared.expression.UnaryMark.{UnaryMark}
use Rattle.wm_lang.specs.declared.expression.UnaryMark.TheVariants as unary
use Rattle.wm_lang.specs.declared.place.Position.{Position}
use Rattle.wm_ops.specs.Operators.{arg_widths_of, arity_of, result_width_of}
use Rattle.wm_ops.specs.declared.operators.Op.{Op}
use Rattle.wm_ops.specs.declared.operators.Width.{Width}
use Rattle.wm_ops.specs.declared.operators.Width.TheVariants.{W16, W32}
use Rattle.wm_program.specs.declared.program.SiteKind.TheVariants as site
use Rattle.wm_program.specs.declared.tree.Array.{Array}
use Rattle.wm_program.specs.declared.tree.Array.TheVariants as array
use Rattle.wm_program.specs.declared.tree.Scalar.{Scalar}
use Rattle.wm_program.specs.declared.tree.Scalar.TheVariants as scalar
use Rattle.wm_source.specs.Constants.{width_of as type_width, value_of}
use Rattle.wm_source.specs.Firsts.{beginning_of, bare_name}
use Rattle.wm_source.specs.Source.{Mark, Either, Both, Equal, NotEqual, Less, LessEqual, Greater, GreaterEqual, Plus, Minus, Times, Divide, Level, Source, Chain, Unary, Cast, Number, Scalar as Name, Element, Pointed, Member, Call, Parenthesis, AddressOf, AddressOfElement, AddressOfOther, Parts, End, Part, Sources, None as NoSource, More}
use Rattle.wm_scope.specs.declared.meaning.Meaning.{Meaning}
use Rattle.wm_scope.specs.declared.meaning.Meaning.TheVariants as meaning
use Rattle.wm_scope.specs.declared.scope.Scope.{Scope}
use Rattle.wm_scope.specs.declared.scope.Slot.{Slot}
use Rattle.wm_scope.specs.Scopes.{meaning_of, result_of}
use Rattle.wm_marks.specs.Marking.{Marking, ◌<$>◌, pure, site as site_at, site_behind}
use Rattle.wm_value.specs.declared.form.Sight.{Sight}
use Rattle.wm_value.specs.declared.form.Head.{Head}
use Rattle.wm_value.specs.declared.form.Head.TheVariants as head
use Rattle.wm_value.specs.Kinds.{is_narrow, sight_of}

-- ---- types

abbrev pub scalar_width : Meaning → Width
scalar_width (meaning.Operator op) = W32
scalar_width (meaning.Counting call) = W32
scalar_width (meaning.Function number) = W32
scalar_width (meaning.Scalar scalar width is_const) = width
scalar_width (meaning.Array array width is_const) = W32
scalar_width meaning.Nothing = W32

abbrev pub element_width : Meaning → Width
element_width (meaning.Operator op) = W32
element_width (meaning.Counting call) = W32
element_width (meaning.Function number) = W32
element_width (meaning.Scalar scalar width is_const) = W32
element_width (meaning.Array array width is_const) = width
element_width meaning.Nothing = W32

abbrev pub width_or : Option Width → Width
width_or None = W32
width_or (Some width) = width

abbrev pub call_width : Scope → Meaning → Width
call_width scope (meaning.Operator op) = result_width_of op
call_width scope (meaning.Counting call) = W32
call_width scope (meaning.Function number) = width_or (result_of number scope)
call_width scope (meaning.Scalar scalar width is_const) = W32
call_width scope (meaning.Array array width is_const) = W32
call_width scope meaning.Nothing = W32

-- the type of an expression: that of a variable, element, cast, operator or function, else 32 bits
abbrev pub width_in : Scope → Source → Width
width_in scope (Chain level at first parts) = W32
width_in scope (Unary mark at operand) = W32
width_in scope (Cast at to operand) = type_width to
width_in scope (Number at z) = W32
width_in scope (Name at name) = scalar_width (meaning_of name.name scope)
width_in scope (Element at name bracket index) = element_width (meaning_of name.name scope)
width_in scope (Pointed at star name) = element_width (meaning_of name.name scope)
width_in scope (Member at object) = W32
width_in scope (Call name arguments) = call_width scope (meaning_of name.name scope)
width_in scope (Parenthesis at inner) = width_in scope inner
width_in scope (AddressOf at name) = W32
width_in scope (AddressOfElement at name bracket index) = W32
width_in scope (AddressOfOther at object) = W32

-- the type of what an assignment writes
abbrev pub spot_width : Scope → SpotKind Written → Width
spot_width scope (spots.Scalar name) = scalar_width (meaning_of name.name scope)
spot_width scope (spots.Element name bracket index) = element_width (meaning_of name.name scope)
spot_width scope (spots.Pointed star name) = element_width (meaning_of name.name scope)
spot_width scope (spots.Member object mark mark_at member) = W32
spot_width scope (spots.MemberElement object mark mark_at member bracket index) = W32

-- ---- narrowing

abbrev pub leaves : Option ℤ → Width → Bool
leaves None W16 = false
leaves None W32 = true
leaves (Some z) width = if int_lt z (negsuc 32767) || int_lt (pos 32767) z then true else false

-- a number of 32 bits goes to 16 bits, and is no constant that fits
abbrev pub narrows : Scope → Source → Width → Bool
narrows scope source W16 = leaves (value_of source) (width_in scope source)
narrows scope source W32 = false

abbrev pub is_operator : Meaning → Bool
is_operator (meaning.Operator op) = true
is_operator (meaning.Counting call) = false
is_operator (meaning.Function number) = false
is_operator (meaning.Scalar scalar width is_const) = false
is_operator (meaning.Array array width is_const) = false
is_operator meaning.Nothing = false

abbrev pub is_minus : UnaryMark → Bool
is_minus unary.Minus = true
is_minus unary.Plus = false
is_minus unary.Not = false

abbrev pub unless_constant : Option ℤ → Bool → Bool
unless_constant None carries = carries
unless_constant (Some z) carries = false

-- the first token has a site of its own
abbrev pub carries : Scope → Source → Bool
carries scope (Chain level at first parts) = unless_constant (value_of (Chain level at first parts)) (carries scope first)
carries scope (Unary mark at operand) = unless_constant (value_of (Unary mark at operand)) (is_minus mark)
carries scope (Cast at to operand) = false
carries scope (Number at z) = false
carries scope (Name at name) = false
carries scope (Element at name bracket index) = false
carries scope (Pointed at star name) = at.token == star.token
carries scope (Member at object) = false
carries scope (Call name arguments) = is_operator (meaning_of name.name scope)
carries scope (Parenthesis at inner) = false
carries scope (AddressOf at name) = false
carries scope (AddressOfElement at name bracket index) = false
carries scope (AddressOfOther at object) = false

abbrev pub site_where : Bool → Marking ℕ → Marking (Option ℕ)
site_where true site = Some <$> site
site_where false site = pure None

-- a conversion at a mark
unfoldable pub narrowing_in : Scope → Source → Width → Position → Marking (Option ℕ)
narrowing_in scope source to at = site_where (narrows scope source to) (site_at site.Narrowing at)

abbrev pub argument_site : Bool → Position → Marking ℕ
argument_site true at = site_behind at
argument_site false at = site_at site.Narrowing at

-- a conversion of an argument, at its first token
unfoldable pub argument_narrowing_in : Scope → Source → Width → Marking (Option ℕ)
argument_narrowing_in scope source to =
    site_where (narrows scope source to) (argument_site (carries scope source) (beginning_of source))

-- the width of an operator's argument at a place; 32 bits for one too many
unfoldable pub width_at : Op → ℕ → Width
width_at op place = width_or (slice_get (arg_widths_of op) place)

-- a conversion of what goes to a place of a function
unfoldable pub passed_narrowing_in : Scope → Source → Option Slot → Marking (Option ℕ)
passed_narrowing_in scope source None = pure None
passed_narrowing_in scope source (Some slot) =
    if slot.is_view then pure None else argument_narrowing_in scope source slot.width

abbrev pub takes_view : Option Slot → Bool
takes_view None = false
takes_view (Some slot) = slot.is_view

-- ---- views by their names alone

abbrev pub head_by : Meaning → Head
head_by (meaning.Operator op) = head.Number
head_by (meaning.Counting call) = head.Number
head_by (meaning.Function number) = head.Number
head_by (meaning.Scalar scalar width is_const) = head.Number
head_by (meaning.Array array width is_const) = head.Sight (sight_of array width is_const)
head_by meaning.Nothing = head.Nothing

abbrev pub head_named : Scope → Option Identifier → Head
head_named scope None = head.Number
head_named scope (Some name) = head_by (meaning_of name.name scope)

abbrev pub head_behind : Scope → Mark → Option Identifier → Head
head_behind scope Plus name = head_named scope name
head_behind scope Minus name = head.Number
head_behind scope Times name = head.Number
head_behind scope Divide name = head.Number
head_behind scope Either name = head.Number
head_behind scope Both name = head.Number
head_behind scope Equal name = head.Number
head_behind scope NotEqual name = head.Number
head_behind scope Less name = head.Number
head_behind scope LessEqual name = head.Number
head_behind scope Greater name = head.Number
head_behind scope GreaterEqual name = head.Number

-- how a sum begins: only one of two parts, with `+`, may be a view
unfoldable pub head_of : Scope → Bool → Source → Parts → Head
head_of scope wants first End = head.Number
head_of scope wants first (Part mark at operand End) =
    if wants then head_behind scope mark (bare_name first) else head.Number
head_of scope wants first (Part mark at operand (Part mark2 at2 operand2 rest)) = head.Number

abbrev pub array_by : Meaning → Option Array
array_by (meaning.Operator op) = None
array_by (meaning.Counting call) = None
array_by (meaning.Function number) = None
array_by (meaning.Scalar scalar width is_const) = None
array_by (meaning.Array array width is_const) = Some array
array_by meaning.Nothing = None

abbrev pub scalar_array : Scalar → Option Array
scalar_array scalar.Overflow = None
scalar_array (scalar.Object object) = Some (array.Object object)
scalar_array (scalar.Local local) = Some (array.Local local)

abbrev pub address_array : Meaning → Option Array
address_array (meaning.Operator op) = None
address_array (meaning.Counting call) = None
address_array (meaning.Function number) = None
address_array (meaning.Scalar scalar width is_const) = scalar_array scalar
address_array (meaning.Array array width is_const) = None
address_array meaning.Nothing = None

abbrev pub array_named : Scope → Option Identifier → Option Array
array_named scope None = None
array_named scope (Some name) = array_by (meaning_of name.name scope)

-- the array into which an argument looks
abbrev pub looked_into : Scope → Source → Option Array
looked_into scope (Chain level at first parts) = array_named scope (bare_name first)
looked_into scope (Unary mark at operand) = None
looked_into scope (Cast at to operand) = None
looked_into scope (Number at z) = None
looked_into scope (Name at name) = array_by (meaning_of name.name scope)
looked_into scope (Element at name bracket index) = None
looked_into scope (Pointed at star name) = None
looked_into scope (Member at object) = None
looked_into scope (Call name arguments) = None
looked_into scope (Parenthesis at inner) = looked_into scope inner
looked_into scope (AddressOf at name) = address_array (meaning_of name.name scope)
looked_into scope (AddressOfElement at name bracket index) = array_by (meaning_of name.name scope)
looked_into scope (AddressOfOther at object) = None

abbrev pub also : List Array → Option Array → List Array
also found None = found
also found (Some array) = found ++ array ∷ []

abbrev pub also_where : Bool → List Array → Option Array → List Array
also_where true found array = also found array
also_where false found array = found

-- what is handed to each view parameter, behind what was found
abbrev pub handed_in : Scope → List Slot → ℕ → List Array → Sources → List Array
handed_in scope slots place found NoSource = found
handed_in scope slots place found (More source rest) =
    handed_in scope slots (suc place) (also_where (takes_view (slice_get slots place)) found (looked_into scope source)) rest
