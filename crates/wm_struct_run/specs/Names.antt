-- What names stand for in a unit with structs.
use Rattle.std.specs.Prelude.{ℕ, ℤ, pos, Bool, true, false, not, ◌&&◌, if◌then◌else◌, List, [], ◌∷◌, ◌++◌, length, map, Option, Some, None, is_some}
use Rattle.wm_ops.specs.declared.operators.Width.{Width}
use Rattle.wm_ops.specs.declared.operators.Width.TheVariants.{W32}
use Rattle.wm_lang.specs.declared.expression.BaseType.{BaseType}
use Rattle.wm_lang.specs.declared.expression.Expr.{Expr}
use Rattle.wm_lang.specs.declared.expression.Identifier.{Identifier}
use Rattle.wm_lang.specs.declared.statement.Declaration.{Declaration}
use Rattle.wm_lang.specs.declared.statement.Declarator.{Declarator}
use Rattle.wm_lang.specs.declared.statement.Declarator.TheVariants as declarator
use Rattle.wm_lang.specs.declared.statement.Initializer.{Initializer}
use Rattle.wm_lang.specs.declared.statement.InitializerList.{InitializerList}
use Rattle.wm_lang.specs.declared.unit.Function.{Function}
use Rattle.wm_lang.specs.declared.unit.Item.{Item}
use Rattle.wm_lang.specs.declared.unit.Item.TheVariants as item
use Rattle.wm_lang.specs.declared.unit.MemberDeclarator.{MemberDeclarator}
use Rattle.wm_lang.specs.declared.unit.MemberDeclarator.TheVariants as member
use Rattle.wm_lang.specs.declared.unit.Members.{Members}
use Rattle.wm_lang.specs.declared.unit.StructObjects.{StructObjects}
use Rattle.wm_source.specs.Constants.{width_of, constant_of}
use Rattle.wm_source.specs.Steps.{same_bytes}
use Rattle.wm_program.specs.Numbers.{natural}
use Rattle.wm_struct_run.specs.Memory.{Key, Variable, Member}

-- a member of a struct; an array has a length
pub record Field : Type 0 where
  pub name : List ℕ
  pub width : Width
  pub length : Option ℕ

-- An array parameter is the array that it looks into, from an offset on. A struct object and a struct parameter are the one object of
-- this token, with its members.
pub data Thing : Type 0 where
  Scalar : Width → Key → Thing
  Array : Width → Key → (offset : ℤ) → Thing
  Structure : (token : ℕ) → List Field → Thing
  Routine : Function → Thing

-- the innermost and latest first
abbrev pub Names : Type 0
Names = List (List ℕ × Thing)

abbrev pub thing_of : List ℕ → Names → Option Thing
thing_of name [] = None
thing_of name (entry ∷ rest) = if same_bytes entry.0 name then Some entry.1 else thing_of name rest

abbrev pub field_of : List ℕ → List Field → Option Field
field_of name [] = None
field_of name (field ∷ rest) = if same_bytes field.name name then Some field else field_of name rest

-- ---- structs

abbrev pub number_or : Option ℤ → ℕ
number_or None = 0
number_or (Some z) = natural z

abbrev pub field_by : Width → MemberDeclarator → Field
field_by width (member.Scalar name) = record { name = name.name; width = width; length = None }
field_by width (member.Array name bracket length) =
    record { name = name.name; width = width; length = Some (number_or (constant_of length)) }

abbrev pub fields_in : List Members → List Field
fields_in [] = []
fields_in (line ∷ rest) = map (field_by (width_of line.base)) line.declarators ++ fields_in rest

abbrev pub Structs : Type 0
Structs = List (List ℕ × List Field)

abbrev pub fields_of : List ℕ → Structs → List Field
fields_of name [] = []
fields_of name (entry ∷ rest) = if same_bytes entry.0 name then entry.1 else fields_of name rest

abbrev pub structs_in : List Item → Structs
structs_in [] = []
structs_in (item.Struct structure ∷ rest) = (structure.name.name, fields_in structure.members) ∷ structs_in rest
structs_in (item.StructObjects objects ∷ rest) = structs_in rest
structs_in (item.Objects declaration ∷ rest) = structs_in rest
structs_in (item.Function function ∷ rest) = structs_in rest

-- ---- declared names

abbrev pub name_of : Declarator → Identifier
name_of (declarator.Scalar name initial) = name
name_of (declarator.Array name bracket length initial) = name

-- a variable of this declarator, with its own cells
abbrev pub declared : Width → Declarator → List ℕ × Thing
declared width (declarator.Scalar name initial) = (name.name, Scalar width (Variable name.at.token))
declared width (declarator.Array name bracket length initial) = (name.name, Array width (Variable name.at.token) (pos 0))

abbrev pub begins : Declarator → Bool
begins (declarator.Scalar name initial) = is_some initial
begins (declarator.Array name bracket length initial) = is_some initial

-- an `extern` without an initialiser declares nothing
abbrev pub stands : Declaration → Declarator → Bool
stands declaration it = if declaration.words.is_extern then begins it else true

abbrev pub objects_in : Declaration → List Declarator → Names
objects_in declaration [] = []
objects_in declaration (it ∷ rest) =
    if stands declaration it then declared (width_of declaration.base) it ∷ objects_in declaration rest else objects_in declaration rest

abbrev pub structures_in : List Field → List Identifier → Names
structures_in fields [] = []
structures_in fields (name ∷ rest) = (name.name, Structure name.at.token fields) ∷ structures_in fields rest

abbrev pub structures_of : Structs → StructObjects → Names
structures_of structs objects =
    if objects.words.is_extern then [] else structures_in (fields_of objects.structure.name structs) objects.objects

abbrev pub routine_of : Function → Bool → Names
routine_of function true = (function.name.name, Routine function) ∷ []
routine_of function false = []

-- the names of file scope; no name stands there twice
abbrev pub names_in : Structs → List Item → Names
names_in structs [] = []
names_in structs (item.Objects declaration ∷ rest) = objects_in declaration declaration.declarators ++ names_in structs rest
names_in structs (item.Function function ∷ rest) = routine_of function (is_some function.body) ++ names_in structs rest
names_in structs (item.Struct structure ∷ rest) = names_in structs rest
names_in structs (item.StructObjects objects ∷ rest) = structures_of structs objects ++ names_in structs rest

-- ---- lengths and first values

abbrev pub count_in : Option InitializerList → ℕ
count_in None = 0
count_in (Some list) = length list.values

abbrev pub length_of : Option Expr → Option InitializerList → ℕ
length_of None initial = count_in initial
length_of (Some size) initial = number_or (constant_of size)

abbrev pub value_or : Option ℤ → ℤ
value_or None = pos 0
value_or (Some z) = z

abbrev pub thing_width : Option Thing → Width
thing_width None = W32
thing_width (Some (Scalar width key)) = width
thing_width (Some (Array width key offset)) = width
thing_width (Some (Structure token fields)) = W32
thing_width (Some (Routine function)) = W32
