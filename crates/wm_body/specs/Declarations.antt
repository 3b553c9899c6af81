-- Declarations of objects and of automatic variables.
use Rattle.std.specs.Prelude.{ℕ, Bool, true, false, if◌then◌else◌, List, [], ◌∷◌, ◌++◌, length, ℤ, Option, Some, None, is_some}
use Rattle.wm_lang.specs.declared.expression.Identifier.{Identifier}
use Rattle.wm_lang.specs.declared.statement.Declaration.{Declaration}
use Rattle.wm_lang.specs.declared.statement.Declarator.{Declarator}
use Rattle.wm_lang.specs.declared.statement.Declarator.TheVariants as declarator
use Rattle.wm_lang.specs.declared.statement.Initializer.{Initializer}
use Rattle.wm_lang.specs.declared.statement.InitializerList.{InitializerList}
use Rattle.wm_ops.specs.declared.operators.Width.{Width}
use Rattle.wm_program.specs.declared.program.ObjectInfo.{ObjectInfo}
use Rattle.wm_program.specs.declared.tree.Array.TheVariants as array
use Rattle.wm_program.specs.declared.tree.Scalar.TheVariants as scalar
use Rattle.wm_program.specs.declared.tree.Converted.{Converted}
use Rattle.wm_program.specs.declared.tree.Declared.{Declared}
use Rattle.wm_program.specs.declared.tree.Declared.TheVariants as made
use Rattle.wm_program.specs.declared.tree.Expr.{Expr as Tree}
use Rattle.wm_program.specs.declared.tree.Statement.{Statement}
use Rattle.wm_program.specs.declared.tree.Statement.TheVariants.{Declare}
use Rattle.wm_scope.specs.declared.meaning.Meaning.{Meaning}
use Rattle.wm_scope.specs.declared.meaning.Meaning.TheVariants as meaning
use Rattle.wm_scope.specs.declared.scope.Scope.{Scope}
use Rattle.wm_source.specs.Constants.{width_of}
use Rattle.wm_source.specs.Reading.{source_of}
use Rattle.wm_marks.specs.Marking.{Step, Marking, ◌>>=◌, ◌>>◌, ◌<$>◌, pure}
use Rattle.wm_value.specs.Needs.{number_in}
use Rattle.wm_value.specs.Widths.{narrowing_in}
use Rattle.wm_body.specs.declared.work.Work.{Work}
use Rattle.wm_body.specs.Lengths.{array_length, constants_in, count_of}
use Rattle.wm_body.specs.Works.{within, change, checked, declare, make_local, make_object, static_name}

abbrev pub name_of : Declarator → Identifier
name_of (declarator.Scalar name initial) = name
name_of (declarator.Array name bracket length initial) = name

-- the length of a declared array; none for a scalar
unfoldable pub length_of : Declarator → Scope → Marking (Option ℕ)
length_of (declarator.Scalar name initial) scope = pure None
length_of (declarator.Array name bracket length initial) scope = Some <$> array_length scope length (count_of initial) name.at

abbrev pub value_constants : Width → Option Initializer → Scope → Marking (List ℤ)
value_constants width None scope = pure []
value_constants width (Some initial) scope = constants_in scope width [] (initial.value ∷ [])

abbrev pub list_constants : Width → Option InitializerList → Scope → Marking (List ℤ)
list_constants width None scope = pure []
list_constants width (Some initial) scope = constants_in scope width [] initial.values

-- the numbers that an object begins with
unfoldable pub constants_of : Width → Declarator → Scope → Marking (List ℤ)
constants_of width (declarator.Scalar name initial) scope = value_constants width initial scope
constants_of width (declarator.Array name bracket length initial) scope = list_constants width initial scope

abbrev pub info : List ℕ → Width → Bool → Option ℕ → List ℤ → ObjectInfo
info name width constant None initial =
    record { name = name; width = width; length = 1; scalar = true; constant = constant; addressed = false; initial = initial; input = false }
info name width constant (Some count) initial =
    record { name = name; width = width; length = count; scalar = false; constant = constant; addressed = false; initial = initial; input = false }

abbrev pub object_meaning : ℕ → Width → Bool → Bool → Meaning
object_meaning object width is_const is_array =
    if is_array then meaning.Array (array.Object object) width is_const else meaning.Scalar (scalar.Object object) width is_const

abbrev pub local_meaning : ℕ → Width → Bool → Option ℕ → Meaning
local_meaning local width is_const None = meaning.Scalar (scalar.Local local) width is_const
local_meaning local width is_const (Some length) = meaning.Array (array.Local local) width is_const

-- an object of file scope
unfoldable pub object : Width → Bool → Declarator → Step Work ℕ
object width is_const it =
    within (length_of it) >>= λ count. within (constants_of width it) >>= λ initial.
    make_object (name_of it).at (info (name_of it).name width is_const count initial)

unfoldable pub make_static : Width → Bool → Identifier → Option ℕ → List ℤ → Step Work (Unit {0})
make_static width is_const name count initial =
    (λ w. make_object name.at (info (static_name w.name name.name) width is_const count initial) w)
    >>= λ number. declare name (object_meaning number width is_const (is_some count))

-- an object of a block, whose name stands for nothing in its own initialiser
unfoldable pub static_object : Width → Bool → Declarator → Step Work (Unit {0})
static_object width is_const it =
    within (length_of it) >>= λ count. change (checked (name_of it)) >> (declare (name_of it) meaning.Nothing
    >> (within (constants_of width it) >>= λ initial. make_static width is_const (name_of it) count initial))

unfoldable pub converted : Width → Option Initializer → Scope → Marking (Option (Converted Tree))
converted width None scope = pure None
converted width (Some initial) scope =
    narrowing_in scope (source_of initial.value) width initial.at >>= λ narrowing.
    number_in scope initial.value >>= λ x. pure (Some (record { value = x; narrowing = narrowing }))

unfoldable pub values_of : Width → Option InitializerList → Scope → Marking (Option (List ℤ))
values_of width None scope = pure None
values_of width (Some initial) scope = Some <$> constants_in scope width [] initial.values

abbrev pub length_or : Option ℕ → ℕ
length_or None = 1
length_or (Some count) = count

unfoldable pub fresh : ℕ → Width → Option ℕ → Declarator → Scope → Marking Declared
fresh local width count (declarator.Scalar name initial) scope = made.Scalar local width <$> converted width initial scope
fresh local width count (declarator.Array name bracket length initial) scope =
    made.Array local (length_or count) <$> values_of width initial scope

-- an automatic variable, whose name stands for nothing in its own initialiser
unfoldable pub automatic : Width → Bool → Declarator → Step Work Declared
automatic width is_const it =
    within (length_of it) >>= λ count. change (checked (name_of it)) >> (make_local (name_of it) width count false >>= λ local.
    declare (name_of it) meaning.Nothing >> (within (fresh local width count it) >>= λ it_made.
    declare (name_of it) (local_meaning local width is_const count) >> pure it_made))

-- one name of a declaration in a block; an object of static storage gives nothing
unfoldable pub declared : Bool → Width → Bool → Declarator → Step Work (Option Declared)
declared true width is_const it = static_object width is_const it >> pure None
declared false width is_const it = Some <$> automatic width is_const it

abbrev pub kept : List Declared → Option Declared → List Declared
kept found None = found
kept found (Some it) = found ++ it ∷ []

-- several, behind those that were read
abbrev pub all_declared : Bool → Width → Bool → List Declared → List Declarator → Step Work (List Declared)
all_declared is_static width is_const found [] = pure found
all_declared is_static width is_const found (it ∷ rest) =
    declared is_static width is_const it >>= λ x. all_declared is_static width is_const (kept found x) rest

unfoldable pub declaration : Declaration → Step Work Statement
declaration it =
    Declare <$> all_declared it.words.is_static (width_of it.base) it.words.is_const [] it.declarators
