-- What is made of an expression. A fold over its type, whose step has what is made of each part in its place.
use Rattle.std.specs.Prelude.{ℕ, ◌+◌, Bool, true, false, ◌&&◌, List, [], ◌∷◌, ◌++◌, map, Option, Some, None, is_some, is_none, ◌==◌, if◌then◌else◌}
use Rattle.std.specs.Option.{option_map_or, option_and_then}
use Rattle.wm_lang.specs.declared.place.Position.{Position}
use Rattle.wm_lang.specs.declared.expression.Identifier.{Identifier}
use Rattle.wm_lang.specs.declared.expression.MemberMark.{MemberMark}
use Rattle.wm_lang.specs.declared.expression.MemberMark.TheVariants.{Dot, Arrow}
use Rattle.wm_lang.specs.declared.expression.Part.{Part}
use Rattle.wm_lang.specs.declared.expression.Chain.{Chain}
use Rattle.wm_lang.specs.declared.expression.Spot.{Spot}
use Rattle.wm_lang.specs.declared.expression.SpotKind.{SpotKind}
use Rattle.wm_lang.specs.declared.expression.SpotKind.TheVariants.{Scalar, Element, Pointed, Member, MemberElement}
use Rattle.wm_lang.specs.declared.expression.Call.{Call}
use Rattle.wm_lang.specs.declared.expression.Expr.{Expr}
use Rattle.wm_lang.specs.declared.expression.Expr.TheVariants as expr
use Rattle.wm_lang.specs.declared.expression.Expr.TheOpen.{Expr-F}
use Rattle.wm_lang.specs.declared.expression.Expr.TheFolds.{fold-Expr}
use Rattle.wm_members.specs.declared.fault.Kind.TheVariants.{NoMember, StructKind}
use Rattle.wm_members.specs.declared.state.Meaning.{Meaning}
use Rattle.wm_members.specs.declared.state.Meaning.TheVariants.{Object, Parameter, Function, Other}
use Rattle.wm_members.specs.declared.state.Slot.{Slot}
use Rattle.wm_members.specs.declared.state.Slot.TheVariants.{Plain, Struct}
use Rattle.wm_members.specs.declared.state.State.{State}
use Rattle.wm_members.specs.declared.handed.Named.{Named as BorrowedName}
use Rattle.wm_members.specs.declared.handed.Passing.{Passing}
use Rattle.wm_members.specs.declared.handed.Passing.TheVariants.{Value, Members, Nothing}
use Rattle.wm_members.specs.Making.{Making, ◌>>=◌, pure, after, more, maybe, all_behind}
use Rattle.wm_members.specs.Members.{StructMember}
use Rattle.wm_members.specs.Naming.{member_identifier}
use Rattle.wm_members.specs.States.{noted, after_use, meaning_of, members_at, member_of, function_of, slot_at}
use Rattle.wm_members.specs.Tables.{all_of}

-- ---- members

-- The struct whose member a name and a mark want: `.` behind a struct object, `->` behind a struct parameter.
abbrev pub structure_behind : Meaning → MemberMark → Option (Option ℕ)
structure_behind (Object number) Dot = Some number
structure_behind (Object number) Arrow = None
structure_behind (Parameter number) Dot = None
structure_behind (Parameter number) Arrow = Some number
structure_behind (Function number) mark = None
structure_behind Other mark = None

abbrev pub is_arrow : MemberMark → Bool
is_arrow Dot = false
is_arrow Arrow = true

-- whether a member is a scalar behind `->`, which an element of its view parameter stands for
abbrev pub pointed_member : Option StructMember → MemberMark → Identifier → Making Bool
pointed_member None mark member = after (noted NoMember member.at.token) (pure false)
pointed_member (Some found) mark member = pure (is_arrow mark && is_none found.bracket)

-- of a struct that is not declared nothing is known
abbrev pub pointed_in : Option (Option ℕ) → MemberMark → Position → Identifier → Making Bool
pointed_in None mark mark_at member = after (noted StructKind mark_at.token) (pure false)
pointed_in (Some None) mark mark_at member = pure false
pointed_in (Some (Some number)) mark mark_at member = λ s. pointed_member (member_of number member.name s) mark member s

abbrev pub pointed : Identifier → MemberMark → Position → Identifier → Making Bool
pointed object mark mark_at member = λ s. pointed_in (structure_behind (meaning_of object.name s) mark) mark mark_at member s

-- ---- spots

-- what stands for `v.m` and `p->m`
abbrev pub member_kind : {E : Type 0} → Identifier → Position → Identifier → Bool → SpotKind E
member_kind object mark_at member true = Pointed mark_at (member_identifier object member.name)
member_kind object mark_at member false = Scalar (member_identifier object member.name)

-- `&` before a spot that is made: where that is `*p`, p itself
abbrev pub addressed_kind : Position → Position → SpotKind Expr → Expr
addressed_kind at spot_at (Scalar name) = expr.Address at (record { at = spot_at; kind = Scalar name })
addressed_kind at spot_at (Element name bracket index) = expr.Address at (record { at = spot_at; kind = Element name bracket index })
addressed_kind at spot_at (Pointed star name) = expr.Spot (record { at = at; kind = Scalar name })
addressed_kind at spot_at (Member object mark mark_at member) = expr.Address at (record { at = spot_at; kind = Member object mark mark_at member })
addressed_kind at spot_at (MemberElement object mark mark_at member bracket index) =
    expr.Address at (record { at = spot_at; kind = MemberElement object mark mark_at member bracket index })

abbrev pub addressed : Position → Spot Expr → Expr
addressed at spot = addressed_kind at spot.at spot.kind

-- ---- arguments

-- a name, or `&` before a name
pub record Named : Type 0 where
  pub name : Identifier
  pub is_address : Bool

-- the struct that a name, or `&` before it, hands on as a whole
abbrev pub whole : Meaning → Bool → Option (Option ℕ)
whole (Object number) true = Some number
whole (Object number) false = None
whole (Parameter number) true = None
whole (Parameter number) false = Some number
whole (Function number) is_address = None
whole Other is_address = None

abbrev pub handed : Option Named → State → Option (Option ℕ)
handed None s = None
handed (Some named) s = whole (meaning_of named.name.name s) named.is_address

-- Of a struct that is not declared nothing is known, so any struct may be it.
abbrev pub passing_whole : Option ℕ → Option ℕ → Option Passing
passing_whole None number = Some Nothing
passing_whole (Some wanted) None = Some Nothing
passing_whole (Some wanted) (Some number) = if wanted == number then Some (Members number) else None

-- What becomes of an argument at its place, none where it may not stand there.
abbrev pub passing : Slot → Option (Option ℕ) → Option Passing
passing Plain None = Some Value
passing Plain (Some number) = None
passing (Struct wanted) None = None
passing (Struct wanted) (Some number) = passing_whole wanted number

-- the view of a member of a struct that an argument hands on, at the first token of the argument
abbrev pub member_argument : Position → Named → StructMember → Expr
member_argument at named member =
    if named.is_address && is_none member.bracket
    then expr.Address at (record { at = named.name.at; kind = Scalar (member_identifier named.name member.name.name) })
    else expr.Spot (record { at = at; kind = Scalar (member_identifier named.name member.name.name) })

-- ---- expressions

-- an expression as what stands around it needs it: the name that it is in parentheses, its first token, and what is made of it
pub record Seen : Type 0 where
  pub named : Option Named
  pub at : Position
  pub made : Making Expr

abbrev pub kind_made : SpotKind Seen → Making (SpotKind Expr)
kind_made (Scalar name) = after (after_use name) (pure (Scalar name))
kind_made (Element name bracket index) = after (after_use name) (index.made >>= λ i. pure (Element name bracket i))
kind_made (Pointed star name) = after (after_use name) (pure (Pointed star name))
kind_made (Member object mark mark_at member) = pointed object mark mark_at member >>= λ is. pure (member_kind object mark_at member is)
kind_made (MemberElement object mark mark_at member bracket index) =
    pointed object mark mark_at member >>= λ is. index.made >>= λ i. pure (Element (member_identifier object member.name) bracket i)

abbrev pub spot_made : Spot Seen → Making (Spot Expr)
spot_made spot = kind_made spot.kind >>= λ kind. pure (record { at = spot.at; kind = kind })

abbrev pub part_made : {M : Type 0} → Part M Seen → Making (Part M Expr)
part_made part = part.operand.made >>= λ operand. pure (record { mark = part.mark; at = part.at; operand = operand })

abbrev pub chain_made : {M : Type 0} → Chain M Seen → Making (Chain M Expr)
chain_made chain = chain.first.made >>= λ first. more part_made [] chain.rest >>= λ rest. pure (record { at = chain.at; first = first; rest = rest })

abbrev pub members_handed : Position → Option Named → List StructMember → List Expr → List Expr
members_handed at None members done = done
members_handed at (Some named) members done = all_behind (member_argument at named) done members

abbrev pub passed : Option Passing → Seen → List Expr → Making (List Expr)
passed None argument done = after (noted StructKind argument.at.token) (pure done)
passed (Some Value) argument done = argument.made >>= λ made. pure (done ++ made ∷ [])
passed (Some (Members number)) argument done = λ s. pure (members_handed argument.at argument.named (all_of (members_at number s.structures)) done) s
passed (Some Nothing) argument done = pure done

abbrev pub argument_made : Slot → Seen → List Expr → Making (List Expr)
argument_made slot argument done = λ s. passed (passing slot (handed argument.named s)) argument done s

abbrev pub arguments_made : Option ℕ → ℕ → List Expr → List Seen → Making (List Expr)
arguments_made function place done [] = pure done
arguments_made function place done (x ∷ xs) = λ s. (argument_made (slot_at s.functions function place) x done >>= λ done. arguments_made function (place + 1) done xs) s

abbrev pub call_of : Identifier → List Seen → Option ℕ → Making (Call Expr)
call_of name arguments function = arguments_made function 0 [] arguments >>= λ arguments. pure (record { name = name; arguments = arguments })

abbrev pub call_made : Call Seen → Making (Call Expr)
call_made call = after (after_use call.name) (λ s. call_of call.name call.arguments (function_of (meaning_of call.name.name s)) s)

-- the name that a spot is
abbrev pub named_spot : {E : Type 0} → Bool → SpotKind E → Option Named
named_spot is_address (Scalar name) = Some (record { name = name; is_address = is_address })
named_spot is_address (Element name bracket index) = None
named_spot is_address (Pointed star name) = None
named_spot is_address (Member object mark mark_at member) = None
named_spot is_address (MemberElement object mark mark_at member bracket index) = None

abbrev pub named_of : Expr-F Seen → Option Named
named_of (Expr-F.Or chain) = None
named_of (Expr-F.And chain) = None
named_of (Expr-F.Equality chain) = None
named_of (Expr-F.Relation chain) = None
named_of (Expr-F.Sum chain) = None
named_of (Expr-F.Product chain) = None
named_of (Expr-F.Unary mark at operand) = None
named_of (Expr-F.Cast at to operand) = None
named_of (Expr-F.Number at value) = None
named_of (Expr-F.Spot spot) = named_spot false spot.kind
named_of (Expr-F.Call call) = None
named_of (Expr-F.Parenthesis at inner) = inner.named
named_of (Expr-F.Address at spot) = named_spot true spot.kind

abbrev pub first_of : Expr-F Seen → Position
first_of (Expr-F.Or chain) = chain.at
first_of (Expr-F.And chain) = chain.at
first_of (Expr-F.Equality chain) = chain.at
first_of (Expr-F.Relation chain) = chain.at
first_of (Expr-F.Sum chain) = chain.at
first_of (Expr-F.Product chain) = chain.at
first_of (Expr-F.Unary mark at operand) = at
first_of (Expr-F.Cast at to operand) = at
first_of (Expr-F.Number at value) = at
first_of (Expr-F.Spot spot) = spot.at
first_of (Expr-F.Call call) = call.name.at
first_of (Expr-F.Parenthesis at inner) = at
first_of (Expr-F.Address at spot) = at

abbrev pub expr_made : Expr-F Seen → Making Expr
expr_made (Expr-F.Or chain) = chain_made chain >>= λ made. pure (expr.Or made)
expr_made (Expr-F.And chain) = chain_made chain >>= λ made. pure (expr.And made)
expr_made (Expr-F.Equality chain) = chain_made chain >>= λ made. pure (expr.Equality made)
expr_made (Expr-F.Relation chain) = chain_made chain >>= λ made. pure (expr.Relation made)
expr_made (Expr-F.Sum chain) = chain_made chain >>= λ made. pure (expr.Sum made)
expr_made (Expr-F.Product chain) = chain_made chain >>= λ made. pure (expr.Product made)
expr_made (Expr-F.Unary mark at operand) = operand.made >>= λ made. pure (expr.Unary mark at made)
expr_made (Expr-F.Cast at to operand) = operand.made >>= λ made. pure (expr.Cast at to made)
expr_made (Expr-F.Number at value) = pure (expr.Number at value)
expr_made (Expr-F.Spot spot) = spot_made spot >>= λ made. pure (expr.Spot made)
expr_made (Expr-F.Call call) = call_made call >>= λ made. pure (expr.Call made)
expr_made (Expr-F.Parenthesis at inner) = inner.made >>= λ made. pure (expr.Parenthesis at made)
expr_made (Expr-F.Address at spot) = spot_made spot >>= λ made. pure (addressed at made)

abbrev pub seen_step : Expr-F Seen → Seen
seen_step layer = record { named = named_of layer; at = first_of layer; made = expr_made layer }

abbrev pub seen : Expr → Seen
seen = fold-Expr Seen seen_step

-- ---- parts of expressions, each with what is seen of those inside

abbrev pub expanded : Expr → Making Expr
expanded e = (seen e).made

abbrev pub part_seen : {M : Type 0} → Part M Expr → Part M Seen
part_seen part = record { mark = part.mark; at = part.at; operand = seen part.operand }

abbrev pub chain_seen : {M : Type 0} → Chain M Expr → Chain M Seen
chain_seen chain = record { at = chain.at; first = seen chain.first; rest = map part_seen chain.rest }

abbrev pub kind_seen : SpotKind Expr → SpotKind Seen
kind_seen (Scalar name) = Scalar name
kind_seen (Element name bracket index) = Element name bracket (seen index)
kind_seen (Pointed star name) = Pointed star name
kind_seen (Member object mark mark_at member) = Member object mark mark_at member
kind_seen (MemberElement object mark mark_at member bracket index) = MemberElement object mark mark_at member bracket (seen index)

abbrev pub spot_seen : Spot Expr → Spot Seen
spot_seen spot = record { at = spot.at; kind = kind_seen spot.kind }

abbrev pub call_seen : Call Expr → Call Seen
call_seen call = record { name = call.name; arguments = map seen call.arguments }

-- a name as the code holds it
abbrev pub plain_named : BorrowedName → Named
plain_named named = record { name = named.name.now; is_address = named.is_address }
