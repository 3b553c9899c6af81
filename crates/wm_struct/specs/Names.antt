-- What the items of a unit declare, and the faults of it.
use Rattle.std.specs.Prelude.{ℕ, ◌-◌, Bool, true, false, ◌==◌, List, [], ◌∷◌, ◌++◌, length, Option, Some, None, is_some, is_none, codes, bytes_eq, if◌then◌else◌}
use Rattle.wm_ops.specs.declared.words.Counted.{Counted}
use Rattle.wm_ops.specs.declared.words.Counted.TheVariants.{Operator, Call, Word}
use Rattle.wm_ops.specs.Names.{word_named}
use Rattle.wm_lang.specs.declared.expression.BaseType.{BaseType}
use Rattle.wm_lang.specs.declared.expression.Identifier.{Identifier}
use Rattle.wm_lang.specs.declared.statement.Words.{Words}
use Rattle.wm_lang.specs.declared.statement.Declarator.{Declarator}
use Rattle.wm_lang.specs.declared.statement.Declarator.TheVariants as declarator
use Rattle.wm_lang.specs.declared.unit.ParameterKind.{ParameterKind}
use Rattle.wm_lang.specs.declared.unit.ParameterKind.TheVariants as parameter
use Rattle.wm_lang.specs.declared.unit.Parameter.{Parameter}
use Rattle.wm_lang.specs.declared.unit.Function.{Function}
use Rattle.wm_lang.specs.declared.unit.MemberDeclarator.{MemberDeclarator}
use Rattle.wm_lang.specs.declared.unit.MemberDeclarator.TheVariants as member
use Rattle.wm_lang.specs.declared.unit.Members.{Members as Line}
use Rattle.wm_lang.specs.declared.unit.Struct.{Struct}
use Rattle.wm_lang.specs.declared.unit.StructObjects.{StructObjects}
use Rattle.wm_lang.specs.declared.unit.Item.{Item}
use Rattle.wm_lang.specs.declared.unit.Item.TheVariants as unit
use Rattle.wm_members.specs.declared.fault.Kind.TheVariants.{StructTwice, StructSize}
use Rattle.wm_struct.specs.declared.names.Listing.{Listing}
use Rattle.wm_members.specs.declared.state.Meaning.TheVariants.{Object, Function as FunctionOf, Other}
use Rattle.wm_members.specs.declared.state.Slot.{Slot}
use Rattle.wm_members.specs.declared.state.Slot.TheVariants.{Plain, Struct as StructOf}
use Rattle.wm_members.specs.declared.state.State.{State}
use Rattle.wm_members.specs.Making.{Making, ◌>>=◌, pure, after, more, behind}
use Rattle.wm_members.specs.Members.{StructMember, scalar_member, array_member}
use Rattle.wm_struct.specs.Statements.{declares}
use Rattle.wm_members.specs.States.{Members, noted_where, declared, structure_number, structure_of}
use Rattle.wm_members.specs.Tables.{found, added}

-- ---- names around the file

abbrev pub is_plain_word : Counted → Bool
is_plain_word (Operator op) = true
is_plain_word (Call call) = true
is_plain_word (Word word) = false

abbrev pub is_outermost_word : Option Counted → List ℕ → Bool
is_outermost_word None name = bytes_eq name (codes "Overflow")
is_outermost_word (Some word) name = is_plain_word word

-- the name of an operator, a counting call or `Overflow`
unfoldable pub is_outermost : List ℕ → Bool
is_outermost name = is_outermost_word (word_named name) name

-- ---- structs

abbrev pub member_name : MemberDeclarator → Identifier
member_name (member.Scalar name) = name
member_name (member.Array name bracket length) = name

abbrev pub member_declared : BaseType → MemberDeclarator → StructMember
member_declared base (member.Scalar name) = scalar_member name base
member_declared base (member.Array name bracket length) = array_member name base bracket length

abbrev pub listing_of : Members → ℕ → Listing
listing_of members room = record { members = members; room = room }

-- A member behind those so far. One that is there already is declared twice, and one for which there is no room is too many.
abbrev pub member_listed : BaseType → MemberDeclarator → Listing → Making Listing
member_listed base d listing =
    after (noted_where (is_some (found (member_name d).name listing.members)) StructTwice (member_name d).at.token)
    (after (noted_where (listing.room == 0) StructSize (member_name d).at.token)
    (pure (listing_of (added (member_name d).name (member_declared base d) listing.members) (listing.room - 1))))

abbrev pub line_listed : BaseType → List MemberDeclarator → Listing → Making Listing
line_listed base [] listing = pure listing
line_listed base (d ∷ ds) listing = member_listed base d listing >>= λ listing. line_listed base ds listing

abbrev pub lines_listed : List Line → Listing → Making Listing
lines_listed [] listing = pure listing
lines_listed (line ∷ lines) listing = line_listed line.base line.declarators listing >>= λ listing. lines_listed lines listing

-- a struct with its members, where it is the first of its name
abbrev pub added_where : Bool → Identifier → Members → State → State
added_where true name members s = noted_where true StructTwice name.at.token s
added_where false name members s =
    record s { numbers = added name.name (length s.structures) s.numbers; structures = s.structures ++ members ∷ [] }

abbrev pub added_struct : Identifier → Members → State → State
added_struct name members s = added_where (is_some (structure_number name.name s)) name members s

abbrev pub with_listing : Identifier → Listing × State → State
with_listing name (listing, s) = added_struct name listing.members s

abbrev pub declared_struct : Struct → State → State
declared_struct structure s = with_listing structure.name (lines_listed structure.members (listing_of [] 32) s)

-- ---- names of the file

abbrev pub declared_object : Option ℕ → Identifier → State → State
declared_object number name s = declared name (Object number) (noted_where (is_outermost name.name) StructTwice name.at.token s)

abbrev pub declared_objects : Option ℕ → List Identifier → State → State
declared_objects number [] s = s
declared_objects number (name ∷ names) s = declared_objects number names (declared_object number name s)

-- those of an extern item declare nothing
abbrev pub objects_where : Bool → List Identifier → Option ℕ × State → State
objects_where true names (number, s) = s
objects_where false names (number, s) = declared_objects number names s

abbrev pub declared_struct_objects : StructObjects → State → State
declared_struct_objects o s = objects_where o.words.is_extern o.objects (structure_of o.structure s)

abbrev pub declared_name : Declarator → State → State
declared_name (declarator.Scalar name initial) s = declared name Other s
declared_name (declarator.Array name bracket length initial) s = declared name Other s

abbrev pub declared_where : Bool → Declarator → State → State
declared_where true d s = declared_name d s
declared_where false d s = s

abbrev pub declared_declarator : Words → Declarator → State → State
declared_declarator words d s = declared_where (declares words d) d s

abbrev pub declared_declarators : Words → List Declarator → State → State
declared_declarators words [] s = s
declared_declarators words (d ∷ ds) s = declared_declarators words ds (declared_declarator words d s)

-- ---- functions

abbrev pub slot_in : Option ℕ × State → Slot × State
slot_in (number, s) = (StructOf number, s)

abbrev pub slot_by : ParameterKind → Making Slot
slot_by (parameter.Scalar base) = pure Plain
slot_by (parameter.Array element bracket length) = pure Plain
slot_by (parameter.Pointer base) = pure Plain
slot_by (parameter.Struct name) = λ s. slot_in (structure_of name s)

abbrev pub slot_made : Parameter → Making Slot
slot_made p = slot_by p.kind

-- a prototype declares nothing
abbrev pub function_where : Bool → Identifier → List Slot × State → State
function_where false name (slots, s) = s
function_where true name (slots, s) =
    let t = declared name (FunctionOf (length s.functions)) s in record t { functions = t.functions ++ slots ∷ [] }

abbrev pub declared_function : Function → State → State
declared_function f s = function_where (is_some f.body) f.name (more slot_made [] f.parameters s)

-- ---- items

abbrev pub declared_item : Item → State → State
declared_item (unit.Objects d) s = declared_declarators d.words d.declarators s
declared_item (unit.Function f) s = declared_function f s
declared_item (unit.Struct structure) s = declared_struct structure s
declared_item (unit.StructObjects o) s = declared_struct_objects o s

abbrev pub declared_items : List Item → State → State
declared_items [] s = s
declared_items (item ∷ items) s = declared_items items (declared_item item s)
