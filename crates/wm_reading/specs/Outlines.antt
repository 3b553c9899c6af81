-- What the items of a unit declare at file scope, before any body is read.
use Rattle.std.specs.Prelude.{ℕ, ◌+◌, Bool, true, false, if◌then◌else◌, nat_lt, List, [], ◌∷◌, ◌++◌, length, map, Option, Some, None, is_some}
use Rattle.wm_lang.specs.declared.expression.BaseType.{BaseType}
use Rattle.wm_lang.specs.declared.expression.Identifier.{Identifier}
use Rattle.wm_lang.specs.declared.place.Position.{Position}
use Rattle.wm_lang.specs.declared.statement.Block.{Block}
use Rattle.wm_lang.specs.declared.statement.Declaration.{Declaration}
use Rattle.wm_lang.specs.declared.statement.Declarator.{Declarator}
use Rattle.wm_lang.specs.declared.statement.Declarator.TheVariants as declarator
use Rattle.wm_lang.specs.declared.statement.Statement.{Statement}
use Rattle.wm_lang.specs.declared.unit.Function.{Function}
use Rattle.wm_lang.specs.declared.unit.Item.{Item}
use Rattle.wm_lang.specs.declared.unit.Item.TheVariants as forms
use Rattle.wm_lang.specs.declared.unit.Parameter.{Parameter}
use Rattle.wm_lang.specs.declared.unit.ParameterKind.{ParameterKind}
use Rattle.wm_lang.specs.declared.unit.ParameterKind.TheVariants as parameters
use Rattle.wm_ops.specs.declared.operators.Width.{Width}
use Rattle.wm_ops.specs.declared.operators.Width.TheVariants.{W32}
use Rattle.wm_program.specs.declared.faults.What.TheVariants.{Functions}
use Rattle.wm_scope.specs.declared.fault.TokenFault.{TokenFault}
use Rattle.wm_scope.specs.declared.fault.TokenFault.TheVariants.{Redefined, TooMany}
use Rattle.wm_scope.specs.declared.meaning.Meaning.{Meaning}
use Rattle.wm_scope.specs.declared.meaning.Meaning.TheVariants as meaning
use Rattle.wm_scope.specs.declared.scope.Slot.{Slot}
use Rattle.wm_scope.specs.Names.{outermost, is_among}
use Rattle.wm_source.specs.Constants.{width_of}
use Rattle.wm_source.specs.Pieces.{written_items}
use Rattle.wm_marks.specs.Marking.{Step, ◌>>◌, pure}
use Rattle.wm_body.specs.declared.work.Work.{Work}
use Rattle.wm_body.specs.Declarations.{name_of, object_meaning}
use Rattle.wm_body.specs.Works.{tell}
use Rattle.wm_reading.specs.declared.outline.Outline.{Outline}
use Rattle.wm_reading.specs.Statics.{statics_of}

abbrev pub is_nothing : Meaning → Bool
is_nothing (meaning.Operator op) = false
is_nothing (meaning.Counting call) = false
is_nothing (meaning.Function number) = false
is_nothing (meaning.Scalar scalar width is_const) = false
is_nothing (meaning.Array array width is_const) = false
is_nothing meaning.Nothing = true

abbrev pub told : TokenFault → Position → Outline → Outline
told fault at o = record o { work = tell fault at o.work }

abbrev pub with_file_name : List ℕ → Meaning → Work → Work
with_file_name name meaning w =
    record w { scope = record w.scope { file = w.scope.file ++ (record { name = name; meaning = meaning }) ∷ [] } }

abbrev pub with_name : List ℕ → Meaning → Outline → Outline
with_name name meaning o = record o { work = with_file_name name meaning o.work }

unfoldable pub told_outermost : Identifier → Outline → Outline
told_outermost name o = if is_nothing (outermost name.name) then o else told Redefined name.at o

-- the first declaration of a name holds
abbrev pub declared_once : Identifier → Meaning → Outline → Outline
declared_once name meaning o =
    if is_among name.name o.work.scope.file then told Redefined name.at o else with_name name.name meaning o

unfoldable pub declare : Identifier → Meaning → Step Outline (Unit {0})
declare name meaning = λ o. (tt, declared_once name meaning (told_outermost name o))

abbrev pub is_array : Declarator → Bool
is_array (declarator.Scalar name initial) = false
is_array (declarator.Array name bracket length initial) = true

abbrev pub has_initial : Declarator → Bool
has_initial (declarator.Scalar name initial) = is_some initial
has_initial (declarator.Array name bracket length initial) = is_some initial

-- a declarator makes an object, but an extern one without initialiser
abbrev pub makes : Bool → Declarator → Bool
makes is_extern it = if is_extern then has_initial it else true

abbrev pub counted : Outline → Outline
counted o = record o { objects = o.objects + 1 }

unfoldable pub object : Width → Bool → Declarator → Step Outline (Unit {0})
object width is_const it =
    λ o. declare (name_of it) (object_meaning o.objects width is_const (is_array it)) (counted o)

unfoldable pub object_where : Bool → Width → Bool → Declarator → Step Outline (Unit {0})
object_where true width is_const it = object width is_const it
object_where false width is_const it = pure tt

abbrev pub all_objects : Bool → Width → Bool → List Declarator → Step Outline (Unit {0})
all_objects is_extern width is_const [] = pure tt
all_objects is_extern width is_const (it ∷ rest) =
    object_where (makes is_extern it) width is_const it >> all_objects is_extern width is_const rest

unfoldable pub objects_of : Declaration → Step Outline (Unit {0})
objects_of it = all_objects it.words.is_extern (width_of it.base) it.words.is_const it.declarators

abbrev pub maybe_width : Option BaseType → Option Width
maybe_width None = None
maybe_width (Some base) = Some (width_of base)

abbrev pub slot_by : Bool → ParameterKind → Slot
slot_by is_const (parameters.Scalar base) = record { width = width_of base; is_view = false; is_const = is_const }
slot_by is_const (parameters.Array element bracket length) = record { width = width_of element; is_view = true; is_const = is_const }
slot_by is_const (parameters.Pointer base) = record { width = width_of base; is_view = true; is_const = is_const }
slot_by is_const (parameters.Struct structure) = record { width = W32; is_view = true; is_const = is_const }

abbrev pub slot_of : Parameter → Slot
slot_of parameter = slot_by parameter.is_const parameter.kind

abbrev pub slots_of : List Parameter → List Slot
slots_of = map slot_of

-- at most 1,024 functions
unfoldable pub noted_function : Position → Outline → Outline
noted_function at o = if nat_lt (length o.work.scope.signatures) 1024 then o else told (TooMany Functions) at o

abbrev pub with_signature : Option Width → List Slot → Work → Work
with_signature result slots w =
    record w { scope = record w.scope { signatures = w.scope.signatures ++ (record { result = result; slots = slots }) ∷ [] } }

abbrev pub signed : Function → Block Statement → Outline → Outline
signed function block o =
    record o {
      work = with_signature (maybe_width function.result) (slots_of function.parameters) o.work;
      objects = statics_of (written_items block.items) o.objects;
    }

abbrev pub with_function : Function → Block Statement → Outline → Unit {0} × Outline
with_function function block o =
    declare function.name (meaning.Function (length o.work.scope.signatures)) (signed function block o)

abbrev pub function_by : Function → Option (Block Statement) → Step Outline (Unit {0})
function_by function None = pure tt
function_by function (Some block) = λ o. with_function function block (noted_function function.name.at o)

unfoldable pub function : Function → Step Outline (Unit {0})
function it = function_by it it.body

unfoldable pub item : Item → Step Outline (Unit {0})
item (forms.Objects declaration) = objects_of declaration
item (forms.Function it) = function it
item (forms.Struct it) = pure tt
item (forms.StructObjects it) = pure tt

abbrev pub items : List Item → Step Outline (Unit {0})
items [] = pure tt
items (it ∷ rest) = item it >> items rest
