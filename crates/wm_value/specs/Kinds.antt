-- What an expression is where a number, a condition or a view is needed, and what names are by themselves.
use Rattle.std.specs.Prelude.{ℕ, suc, ℤ, pos, Bool, true, false, not, ◌||◌, ◌&&◌, if◌then◌else◌, List, [], ◌∷◌, ◌++◌, Option, Some, None, slice_get}
use denote.Enum.Bare.{sameb}
use Rattle.wm_lang.specs.declared.expression.Identifier.{Identifier}
use Rattle.wm_lang.specs.declared.place.Position.{Position}
use Rattle.wm_ops.specs.declared.operators.Width.{Width}
use Rattle.wm_ops.specs.declared.operators.Width.TheVariants.{W16, W32}
use Rattle.wm_program.specs.declared.program.SiteKind.TheVariants as site
use Rattle.wm_program.specs.declared.tree.Array.{Array}
use Rattle.wm_program.specs.declared.tree.Array.TheVariants as array
use Rattle.wm_program.specs.declared.tree.Scalar.{Scalar}
use Rattle.wm_program.specs.declared.tree.Scalar.TheVariants as scalar
use Rattle.wm_program.specs.declared.tree.Condition.{Condition}
use Rattle.wm_program.specs.declared.tree.Condition.TheVariants as c
use Rattle.wm_program.specs.declared.tree.Converted.{Converted}
use Rattle.wm_program.specs.declared.tree.Expr.{Expr}
use Rattle.wm_program.specs.declared.tree.Expr.TheVariants as e
use Rattle.wm_program.specs.declared.tree.Passed.{Passed}
use Rattle.wm_program.specs.declared.tree.Passed.TheVariants as passed
use Rattle.wm_program.specs.declared.tree.View.{View}
use Rattle.wm_program.specs.declared.tree.View.TheVariants as view
use Rattle.wm_scope.specs.declared.fault.TokenFault.TheVariants.{UnknownName, WrongKind}
use Rattle.wm_scope.specs.declared.meaning.Meaning.{Meaning}
use Rattle.wm_scope.specs.declared.meaning.Meaning.TheVariants as meaning
use Rattle.wm_scope.specs.declared.scope.Scope.{Scope}
use Rattle.wm_scope.specs.declared.scope.Slot.{Slot}
use Rattle.wm_scope.specs.Scopes.{meaning_of}
use Rattle.wm_marks.specs.declared.marks.Marks.{Marks}
use Rattle.wm_marks.specs.Marking.{Marking, ◌>>=◌, ◌>>◌, ◌<$>◌, pure, noted, site as site_at, took_object, took_local}
use Rattle.wm_value.specs.declared.form.Begun.{Begun}
use Rattle.wm_value.specs.declared.form.Sight.{Sight}
use Rattle.wm_value.specs.declared.form.Value.{Value}
use Rattle.wm_value.specs.declared.form.Value.TheVariants.{Number, Truth, View as Seen, LostView, Function, Effect, Nothing}

-- ---- stand-ins

abbrev pub no_number : Expr
no_number = e.Constant (pos 0)

abbrev pub no_condition : Condition
no_condition = c.Truth no_number

abbrev pub no_array : Array
no_array = array.Object 0

abbrev pub no_view : View Expr
no_view = view.Whole no_array

-- the stand-in for what is of a wrong kind
abbrev pub wrong : {A : Type 0} → A → Position → Marking A
wrong a at = λ m. (a, noted WrongKind at m)

-- ---- where a number, a condition or a view is needed

unfoldable pub number_of : Position → Value → Marking Expr
number_of at (Number number) = pure number
number_of at (Truth condition) = wrong no_number at
number_of at (Seen view sight) = wrong no_number at
number_of at LostView = wrong no_number at
number_of at Function = wrong no_number at
number_of at (Effect effect) = wrong no_number at
number_of at Nothing = pure no_number

unfoldable pub condition_of : Position → Value → Marking Condition
condition_of at (Number number) = pure (c.Truth number)
condition_of at (Truth condition) = pure condition
condition_of at (Seen view sight) = wrong no_condition at
condition_of at LostView = wrong no_condition at
condition_of at Function = wrong no_condition at
condition_of at (Effect effect) = wrong no_condition at
condition_of at Nothing = pure no_condition

abbrev pub is_narrow : Width → Bool
is_narrow W16 = true
is_narrow W32 = false

abbrev pub same_width : Width → Width → Bool
same_width W16 W16 = true
same_width W16 W32 = false
same_width W32 W16 = false
same_width W32 W32 = true

-- elements of the same width, and none of a const array behind a parameter without const
abbrev pub fits : Sight → Slot → Bool
fits sight slot = if same_width sight.width slot.width then (if sight.is_const then slot.is_const else true) else false

abbrev pub view_of : Position → Slot → Value → Marking (View Expr)
view_of at slot (Number number) = wrong no_view at
view_of at slot (Truth condition) = wrong no_view at
view_of at slot (Seen view sight) = if fits sight slot then pure view else wrong no_view at
view_of at slot LostView = pure no_view
view_of at slot Function = wrong no_view at
view_of at slot (Effect effect) = wrong no_view at
view_of at slot Nothing = pure no_view

abbrev pub passed_by : Bool → Position → Slot → Option ℕ → Value → Marking (Passed Expr)
passed_by true at slot narrowing value = passed.View <$> view_of at slot value
passed_by false at slot narrowing value =
    (λ number. passed.Value (record { value = number; narrowing = narrowing })) <$> number_of at value

-- an argument; one too many is dropped
unfoldable pub passed_of : Position → Option Slot → Option ℕ → Value → Marking (Passed Expr)
passed_of at None narrowing value = pure (passed.Value (record { value = no_number; narrowing = None }))
passed_of at (Some slot) narrowing value = passed_by slot.is_view at slot narrowing value

-- ---- names

abbrev pub unknown : {A : Type 0} → A → Position → Marking A
unknown a at = λ m. (a, noted UnknownName at m)

abbrev pub sight_of : Array → Width → Bool → Sight
sight_of array width is_const = record { array = array; width = width; is_const = is_const }

abbrev pub whole_of : Array → Width → Bool → Value
whole_of array width is_const = Seen (view.Whole array) (sight_of array width is_const)

abbrev pub named_by : Position → Meaning → Marking Value
named_by at (meaning.Operator op) = pure Function
named_by at (meaning.Counting call) = pure Function
named_by at (meaning.Function number) = pure Function
named_by at (meaning.Scalar scalar width is_const) = pure (Number (e.Scalar scalar))
named_by at (meaning.Array array width is_const) = pure (whole_of array width is_const)
named_by at meaning.Nothing = unknown Nothing at

unfoldable pub named : Scope → Identifier → Marking Value
named scope name = named_by name.at (meaning_of name.name scope)

-- an array before brackets or behind `*`; the first place is that of the name
abbrev pub array_by : Position → Position → Meaning → Marking Array
array_by at wrong_at (meaning.Operator op) = wrong no_array wrong_at
array_by at wrong_at (meaning.Counting call) = wrong no_array wrong_at
array_by at wrong_at (meaning.Function number) = wrong no_array wrong_at
array_by at wrong_at (meaning.Scalar scalar width is_const) = wrong no_array wrong_at
array_by at wrong_at (meaning.Array array width is_const) = pure array
array_by at wrong_at meaning.Nothing = unknown no_array at

unfoldable pub array_at : Scope → Identifier → Position → Marking Array
array_at scope name wrong_at = array_by name.at wrong_at (meaning_of name.name scope)

-- `*p`
unfoldable pub pointed_at : Scope → Position → Identifier → Marking (Array × ℕ)
pointed_at scope star name = array_at scope name star >>= λ array. (λ number. (array, number)) <$> site_at site.Index star

-- ---- addresses

abbrev pub addressed_by : Position → Scalar → Width → Bool → Marking Value
addressed_by at scalar.Overflow width is_const = wrong LostView at
addressed_by at (scalar.Object object) width is_const = took_object object >> pure (whole_of (array.Object object) width is_const)
addressed_by at (scalar.Local local) width is_const = took_local local >> pure (whole_of (array.Local local) width is_const)

-- `&v`
abbrev pub address_by : Position → Position → Meaning → Marking Value
address_by at name_at (meaning.Operator op) = wrong LostView at
address_by at name_at (meaning.Counting call) = wrong LostView at
address_by at name_at (meaning.Function number) = wrong LostView at
address_by at name_at (meaning.Scalar scalar width is_const) = addressed_by at scalar width is_const
address_by at name_at (meaning.Array array width is_const) = wrong LostView at
address_by at name_at meaning.Nothing = unknown LostView name_at

unfoldable pub address : Scope → Position → Identifier → Marking Value
address scope at name = address_by at name.at (meaning_of name.name scope)

-- the place at which `&` before a scalar with brackets is told: the mark before `Overflow`, else the name
abbrev pub scalar_place : Position → Position → Scalar → Position
scalar_place at name_at scalar.Overflow = at
scalar_place at name_at (scalar.Object object) = name_at
scalar_place at name_at (scalar.Local local) = name_at

-- `&a[e]`, up to the bracket
abbrev pub sight_by : Position → Position → Meaning → Marking (Option Sight)
sight_by at name_at (meaning.Operator op) = wrong None name_at
sight_by at name_at (meaning.Counting call) = wrong None name_at
sight_by at name_at (meaning.Function number) = wrong None name_at
sight_by at name_at (meaning.Scalar scalar width is_const) = wrong None (scalar_place at name_at scalar)
sight_by at name_at (meaning.Array array width is_const) = pure (Some (sight_of array width is_const))
sight_by at name_at meaning.Nothing = unknown None name_at

unfoldable pub sight_at : Scope → Position → Identifier → Marking (Option Sight)
sight_at scope at name = sight_by at name.at (meaning_of name.name scope)

-- the part of an array from an index on
unfoldable pub part_of : Option Sight → Expr → ℕ → Value
part_of None index number = LostView
part_of (Some sight) index number = Seen (view.From sight.array index number) sight

-- `&a[e]` before its index is read, and behind it
unfoldable pub begin_part : Scope → Position → Identifier → Position → Marking Begun
begin_part scope at name bracket =
    sight_at scope at name >>= λ sight. (λ here. record { sight = sight; site = here }) <$> site_at site.View bracket

unfoldable pub part_value : Position → Begun → Value → Marking Value
part_value at begun value = number_of at value >>= λ x. pure (part_of begun.sight x begun.site)
