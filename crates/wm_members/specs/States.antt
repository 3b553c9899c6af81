-- What is known while a unit is rewritten, and what names stand for.
use Rattle.std.specs.Prelude.{ℕ, Bool, true, false, ◌||◌, List, [], ◌∷◌, ◌++◌, Option, Some, None, is_some, unwrap_or, slice_get, if◌then◌else◌}
use Rattle.std.specs.Option.{option_map_or}
use Rattle.wm_lang.specs.declared.expression.Identifier.{Identifier}
use Rattle.wm_members.specs.declared.fault.Kind.{Kind}
use Rattle.wm_members.specs.declared.fault.Kind.TheVariants.{NoStruct, StructTwice, StructKind}
use Rattle.wm_members.specs.declared.state.Meaning.{Meaning}
use Rattle.wm_members.specs.declared.state.Meaning.TheVariants.{Object, Parameter, Function, Other}
use Rattle.wm_members.specs.declared.state.Slot.{Slot}
use Rattle.wm_members.specs.declared.state.Slot.TheVariants.{Plain}
use Rattle.wm_members.specs.declared.state.State.{State}
use Rattle.wm_members.specs.Faults.{with_fault}
use Rattle.wm_members.specs.Members.{StructMember}
use Rattle.wm_members.specs.Tables.{found, added}

-- names with what they stand for
abbrev pub Scope : Type 0
Scope = List (List ℕ × Meaning)

-- the members of a struct in order
abbrev pub Members : Type 0
Members = List (List ℕ × StructMember)

-- nothing is declared
abbrev pub at_start : State
at_start = record { numbers = []; structures = []; functions = []; outer = []; innermost = []; least = None }

-- ---- faults

abbrev pub noted : Kind → ℕ → State → State
noted kind token s = record s { least = Some (with_fault (record { kind = kind; token = token }) s.least) }

abbrev pub noted_where : Bool → Kind → ℕ → State → State
noted_where true kind token s = noted kind token s
noted_where false kind token s = s

-- ---- names

abbrev pub meaning_or : Scope → List ℕ → Meaning → Meaning
meaning_or scope name outside = unwrap_or (found name scope) outside

-- what a name stands for behind these scopes, each inside the one before
abbrev pub meaning_from : Meaning → List ℕ → List Scope → Meaning
meaning_from outside name [] = outside
meaning_from outside name (scope ∷ scopes) = meaning_from (meaning_or scope name outside) name scopes

abbrev pub meaning_of : List ℕ → State → Meaning
meaning_of name s = meaning_or s.innermost name (meaning_from Other name s.outer)

abbrev pub is_struct : Meaning → Bool
is_struct (Object number) = true
is_struct (Parameter number) = true
is_struct (Function number) = false
is_struct Other = false

-- a struct object or a struct parameter where none may stand
abbrev pub after_use : Identifier → State → State
after_use name s = noted_where (is_struct (meaning_of name.name s)) StructKind name.at.token s

-- ---- scopes

abbrev pub entered : State → State
entered s = record s { outer = s.outer ++ s.innermost ∷ []; innermost = [] }

-- a list without its last item
abbrev pub front_of : {A : Type 0} → List A → List A
front_of [] = []
front_of (x ∷ []) = []
front_of (x ∷ y ∷ rest) = x ∷ front_of (y ∷ rest)

abbrev pub last_or : {A : Type 0} → A → List A → A
last_or other [] = other
last_or other (x ∷ rest) = last_or x rest

abbrev pub left : State → State
left s = record s { outer = front_of s.outer; innermost = last_or s.innermost s.outer }

-- a name is there, and it or the new one is a struct object or a struct parameter
abbrev pub is_twice : Scope → List ℕ → Meaning → Bool
is_twice scope name meaning = option_map_or (λ first. is_struct first || is_struct meaning) (found name scope) false

abbrev pub with_name : List ℕ → Meaning → State → State
with_name name meaning s = record s { innermost = added name meaning s.innermost }

abbrev pub declared : Identifier → Meaning → State → State
declared name meaning s =
    with_name name.name meaning (noted_where (is_twice s.innermost name.name meaning) StructTwice name.at.token s)

-- ---- structs

abbrev pub structure_number : List ℕ → State → Option ℕ
structure_number name s = found name s.numbers

-- the struct of a name, which is declared before
abbrev pub noted_unless : Option ℕ → ℕ → State → State
noted_unless None token s = noted NoStruct token s
noted_unless (Some number) token s = s

abbrev pub structure_of : Identifier → State → Option ℕ × State
structure_of name s = (structure_number name.name s, noted_unless (structure_number name.name s) name.at.token s)

abbrev pub members_at : ℕ → List Members → Members
members_at number structures = unwrap_or (slice_get structures number) []

abbrev pub member_of : ℕ → List ℕ → State → Option StructMember
member_of number name s = found name (members_at number s.structures)

-- ---- functions

abbrev pub function_of : Meaning → Option ℕ
function_of (Object number) = None
function_of (Parameter number) = None
function_of (Function number) = Some number
function_of Other = None

abbrev pub slot_of : List (List Slot) → ℕ → ℕ → Slot
slot_of functions number place = unwrap_or (slice_get (unwrap_or (slice_get functions number) []) place) Plain

-- what stands at a place among the parameters of a function
abbrev pub slot_at : List (List Slot) → Option ℕ → ℕ → Slot
slot_at functions None place = Plain
slot_at functions (Some number) place = slot_of functions number place
