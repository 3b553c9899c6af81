-- The items of a unit, without the forms of structs.
use Rattle.std.specs.Prelude.{ℕ, Bool, true, false, List, [], ◌∷◌, ◌++◌, Option, Some, None, Result}
use Rattle.wm_lang.specs.declared.place.Position.{Position}
use Rattle.wm_lang.specs.declared.expression.Expr.{Expr}
use Rattle.wm_lang.specs.declared.expression.Identifier.{Identifier}
use Rattle.wm_lang.specs.declared.statement.Block.{Block}
use Rattle.wm_lang.specs.declared.statement.Statement.{Statement}
use Rattle.wm_lang.specs.declared.statement.Declarator.{Declarator}
use Rattle.wm_lang.specs.declared.statement.Declarator.TheVariants as declarator
use Rattle.wm_lang.specs.declared.statement.Declaration.{Declaration}
use Rattle.wm_lang.specs.declared.unit.Function.{Function}
use Rattle.wm_lang.specs.declared.unit.MemberDeclarator.{MemberDeclarator}
use Rattle.wm_lang.specs.declared.unit.MemberDeclarator.TheVariants as member
use Rattle.wm_lang.specs.declared.unit.Members.{Members as Line}
use Rattle.wm_lang.specs.declared.unit.StructObjects.{StructObjects}
use Rattle.wm_lang.specs.declared.unit.Item.{Item}
use Rattle.wm_lang.specs.declared.unit.Item.TheVariants as unit
use Rattle.wm_lang.specs.declared.unit.Unit.{Unit as UnitTree}
use Rattle.wm_members.specs.declared.fault.StructFault.{StructFault}
use Rattle.wm_members.specs.declared.state.State.{State}
use Rattle.wm_members.specs.Expressions.{expanded}
use Rattle.wm_members.specs.Faults.{unless}
use Rattle.wm_members.specs.Making.{Making, ◌>>=◌, pure, after, more, behind}
use Rattle.wm_members.specs.Members.{StructMember}
use Rattle.wm_struct.specs.Names.{declared_items}
use Rattle.wm_members.specs.Naming.{member_identifier}
use Rattle.wm_struct.specs.Parameters.{parameter_behind}
use Rattle.wm_struct.specs.Statements.{declaration_made, items_expanded}
use Rattle.wm_members.specs.States.{at_start, entered, left, structure_number, members_at}
use Rattle.wm_members.specs.Tables.{all_of}

-- ---- structs: the lengths of their members are looked at, and they declare no object

abbrev pub after_length : MemberDeclarator → State → State
after_length (member.Scalar name) s = s
after_length (member.Array name bracket length) s = (expanded length s).1

abbrev pub after_line : List MemberDeclarator → State → State
after_line [] s = s
after_line (d ∷ ds) s = after_line ds (after_length d s)

abbrev pub after_lengths : List Line → State → State
after_lengths [] s = s
after_lengths (line ∷ lines) s = after_lengths lines (after_line line.declarators s)

-- ---- struct objects: one object for each member

abbrev pub scalar_declarator : Identifier → StructMember → Declarator
scalar_declarator object m = declarator.Scalar (member_identifier object m.name.name) None

-- an array has its bracket and the length that its member has
abbrev pub bracket_declarator : Identifier → StructMember → Option Position → Option Expr → Making Declarator
bracket_declarator object m None length = pure (scalar_declarator object m)
bracket_declarator object m (Some bracket) None = pure (scalar_declarator object m)
bracket_declarator object m (Some bracket) (Some length) =
    expanded length >>= λ l. pure (declarator.Array (member_identifier object m.name.name) bracket (Some l) None)

abbrev pub member_object : StructObjects → Identifier → StructMember → Making Item
member_object o object m =
    bracket_declarator object m m.bracket m.length
    >>= λ d. pure (unit.Objects (record { at = o.at; words = o.words; base = m.base; declarators = d ∷ [] }))

abbrev pub object_behind : StructObjects → List StructMember → Identifier → List Item → Making (List Item)
object_behind o members object done = more (member_object o object) done members

abbrev pub objects_in : StructObjects → Option ℕ → List Item → Making (List Item)
objects_in o None done = pure done
objects_in o (Some number) done = λ s. behind (object_behind o (all_of (members_at number s.structures))) done o.objects s

abbrev pub objects_where : Bool → StructObjects → List Item → Making (List Item)
objects_where true o done = pure done
objects_where false o done = λ s. objects_in o (structure_number o.structure.name s) done s

abbrev pub objects_behind : StructObjects → List Item → Making (List Item)
objects_behind o done = objects_where o.words.is_extern o done

-- ---- functions

abbrev pub function_made : Function → Block Statement → Making Function
function_made f body =
    after entered
    (behind parameter_behind [] f.parameters
    >>= λ parameters. items_expanded body.items
    >>= λ items. after left (pure (record {
      at = f.at;
      words = f.words;
      result = f.result;
      name = f.name;
      parameters = parameters;
      body = Some (record { first = body.first; items = items; last = body.last });
    })))

-- a prototype declares nothing
abbrev pub function_behind : Function → Option (Block Statement) → List Item → Making (List Item)
function_behind f None done = pure done
function_behind f (Some body) done = function_made f body >>= λ made. pure (done ++ unit.Function made ∷ [])

-- ---- items

abbrev pub objects_unless : List Declarator → Declaration → List Item → List Item
objects_unless [] d done = done
objects_unless (x ∷ xs) d done = done ++ unit.Objects d ∷ []

-- a declaration without declarators declares nothing
abbrev pub kept_objects : Declaration → List Item → List Item
kept_objects d done = objects_unless d.declarators d done

abbrev pub item_behind : Item → List Item → Making (List Item)
item_behind (unit.Objects d) done = declaration_made false d >>= λ made. pure (kept_objects made done)
item_behind (unit.Function f) done = function_behind f f.body done
item_behind (unit.Struct structure) done = after (after_lengths structure.members) (pure done)
item_behind (unit.StructObjects o) done = objects_behind o done

-- ---- units

-- the items without the forms of structs, and what is known then: the names of the whole file are declared before
abbrev pub items_made : List Item → List Item × State
items_made items = behind item_behind [] items (declared_items items at_start)

abbrev pub unit_or_fault : List Item × State → Result UnitTree StructFault
unit_or_fault made = unless (record { items = made.0 }) made.1.least

-- the expanded unit, or the first struct fault
abbrev pub expansion_of : UnitTree → Result UnitTree StructFault
expansion_of u = unit_or_fault (items_made u.items)
