-- What expressions give in a unit with structs. Evaluation is from left to right. An expression is what it does where a number, a
-- condition or a view is wanted, by what stands inside it.
use Rattle.std.specs.Prelude.{ℕ, Bool, true, false, not, ◌&&◌, if◌then◌else◌, List, [], ◌∷◌, length, ℤ, pos, neg_ℤ, Option, Some, None}
use Rattle.std.specs.Ordering.{int_eq}
use Rattle.std.specs.Str.{bytes_eq}
use Rattle.wm_ops.specs.Operators.{arg_widths_of, result_width_of}
use Rattle.wm_ops.specs.Names.{op_named}
use Rattle.wm_ops.specs.declared.operators.Op.{Op}
use Rattle.wm_ops.specs.declared.operators.Width.{Width}
use Rattle.wm_ops.specs.declared.operators.Width.TheVariants.{W32}
use Rattle.wm_lang.specs.declared.expression.BaseType.{BaseType}
use Rattle.wm_lang.specs.declared.expression.Call.{Call}
use Rattle.wm_lang.specs.declared.expression.Expr.{Expr}
use Rattle.wm_lang.specs.declared.expression.Expr.TheOpen.{Expr-F}
use Rattle.wm_lang.specs.declared.expression.Expr.TheFolds.{fold-Expr}
use Rattle.wm_lang.specs.declared.expression.Identifier.{Identifier}
use Rattle.wm_lang.specs.declared.expression.Part.{Part}
use Rattle.wm_lang.specs.declared.expression.SpotKind.{SpotKind}
use Rattle.wm_lang.specs.declared.expression.SpotKind.TheVariants as spot
use Rattle.wm_lang.specs.declared.expression.UnaryMark.{UnaryMark}
use Rattle.wm_lang.specs.declared.expression.UnaryMark.TheVariants as unary
use Rattle.wm_lang.specs.declared.place.Position.{Position}
use Rattle.wm_lang.specs.declared.unit.Function.{Function}
use Rattle.wm_lang.specs.declared.unit.Parameter.{Parameter}
use Rattle.wm_lang.specs.declared.unit.ParameterKind.{ParameterKind}
use Rattle.wm_lang.specs.declared.unit.ParameterKind.TheVariants as parameter
use Rattle.wm_source.specs.Constants.{width_of, wrapped, within32, and_also, signed, operated as constant_operated}
use Rattle.wm_source.specs.Reading.{equality_mark, relation_mark, sum_mark, product_mark}
use Rattle.wm_source.specs.Source.{Mark}
use Rattle.wm_source.specs.Source as mark
use Rattle.wm_program.specs.declared.tree.Comparison.{Comparison}
use Rattle.wm_program.specs.declared.tree.Comparison.TheVariants as comparison
use Rattle.wm_program.specs.declared.tree.PlainMark.{PlainMark}
use Rattle.wm_program.specs.declared.tree.PlainMark.TheVariants as plain
use Rattle.wm_program.specs.declared.program.SiteKind.{SiteKind}
use Rattle.wm_program.specs.declared.program.SiteKind.TheVariants as kind
use Rattle.wm_program.specs.Numbers.{plain_of as exact, compares}
use Rattle.wm_program.specs.State.{set_number}
use Rattle.wm_struct_run.specs.Memory.{State, Key, Variable, Member, Place, Flag, At, number_at}
use Rattle.wm_struct_run.specs.Flow.{Got, Gives, Halts, then_get}
use Rattle.wm_struct_run.specs.Names.{Field, Thing, Scalar, Array, Structure, Routine, Names, thing_of, field_of, thing_width}
use Rattle.wm_struct_run.specs.Operations.{Sight, no_sight, computed, operate, read, reach, begin_at, narrows, converted}

-- what a call hands to a function: the names of its parameters, and the numbers of those that are scalars, by their tokens
pub record Bound : Type 0 where
  pub names : Names
  pub numbers : List (ℕ × ℤ)

abbrev pub Doing : Type 0 → Type 0
Doing A = Names → State → Got A

-- an expression as what stands around it needs it
pub record Meant : Type 0 where
  -- its first token, an outer parenthesis included
  pub first : Position
  -- its value, where it is a constant expression
  pub constant : Option ℤ
  pub width : Names → Width
  pub number : Doing ℤ
  pub truth : Doing Bool
  -- an array by its name, and what it gives as a view
  pub sight : Names → Sight
  pub view : Doing Sight
  -- the struct object that it hands on
  pub whole : Names → Option Thing

-- ---- marks

abbrev pub comparison_of : Mark → Comparison
comparison_of mark.Either = comparison.Equal
comparison_of mark.Both = comparison.Equal
comparison_of mark.Equal = comparison.Equal
comparison_of mark.NotEqual = comparison.NotEqual
comparison_of mark.Less = comparison.Less
comparison_of mark.LessEqual = comparison.LessEqual
comparison_of mark.Greater = comparison.Greater
comparison_of mark.GreaterEqual = comparison.GreaterEqual
comparison_of mark.Plus = comparison.Equal
comparison_of mark.Minus = comparison.Equal
comparison_of mark.Times = comparison.Equal
comparison_of mark.Divide = comparison.Equal

abbrev pub plain_of : Mark → PlainMark
plain_of mark.Either = plain.Plus
plain_of mark.Both = plain.Plus
plain_of mark.Equal = plain.Plus
plain_of mark.NotEqual = plain.Plus
plain_of mark.Less = plain.Plus
plain_of mark.LessEqual = plain.Plus
plain_of mark.Greater = plain.Plus
plain_of mark.GreaterEqual = plain.Plus
plain_of mark.Plus = plain.Plus
plain_of mark.Minus = plain.Minus
plain_of mark.Times = plain.Times
plain_of mark.Divide = plain.Divide

-- ---- names

abbrev pub place_of : Option Thing → Place
place_of None = Flag
place_of (Some (Scalar width key)) = At key 0
place_of (Some (Array width key offset)) = At key 0
place_of (Some (Structure token fields)) = Flag
place_of (Some (Routine function)) = Flag

abbrev pub sight_of : Option Thing → Sight
sight_of None = no_sight
sight_of (Some (Scalar width key)) = record { key = key; offset = pos 0 }
sight_of (Some (Array width key offset)) = record { key = key; offset = offset }
sight_of (Some (Structure token fields)) = no_sight
sight_of (Some (Routine function)) = no_sight

-- a member is looked up in its object
abbrev pub member_key : Option Thing → List ℕ → Key
member_key None name = Variable 0
member_key (Some (Scalar width key)) name = key
member_key (Some (Array width key offset)) name = key
member_key (Some (Structure token fields)) name = Member token name
member_key (Some (Routine function)) name = Variable 0

abbrev pub field_width : Option Field → Width
field_width None = W32
field_width (Some field) = field.width

abbrev pub member_width : Option Thing → List ℕ → Width
member_width None name = W32
member_width (Some (Scalar width key)) name = W32
member_width (Some (Array width key offset)) name = W32
member_width (Some (Structure token fields)) name = field_width (field_of name fields)
member_width (Some (Routine function)) name = W32

abbrev pub member_sight : Names → Identifier → Identifier → Sight
member_sight names object member = record { key = member_key (thing_of object.name names) member.name; offset = pos 0 }

-- ---- types

abbrev pub spot_width : {E : Type 0} → SpotKind E → Names → Width
spot_width (spot.Scalar name) names = thing_width (thing_of name.name names)
spot_width (spot.Element name bracket index) names = thing_width (thing_of name.name names)
spot_width (spot.Pointed star name) names = thing_width (thing_of name.name names)
spot_width (spot.Member object mark mark_at member) names = member_width (thing_of object.name names) member.name
spot_width (spot.MemberElement object mark mark_at member bracket index) names = member_width (thing_of object.name names) member.name

-- the result of an operator, where the name is none of the unit
abbrev pub outer_width : Option Op → Width
outer_width None = W32
outer_width (Some op) = result_width_of op

abbrev pub base_or : Option BaseType → Width
base_or None = W32
base_or (Some base) = width_of base

abbrev pub call_width : Option Thing → List ℕ → Width
call_width None name = outer_width (op_named name)
call_width (Some (Scalar width key)) name = W32
call_width (Some (Array width key offset)) name = W32
call_width (Some (Structure token fields)) name = W32
call_width (Some (Routine function)) name = base_or function.result

abbrev pub width_by : Expr-F Meant → Names → Width
width_by (Expr-F.Or chain) names = W32
width_by (Expr-F.And chain) names = W32
width_by (Expr-F.Equality chain) names = W32
width_by (Expr-F.Relation chain) names = W32
width_by (Expr-F.Sum chain) names = W32
width_by (Expr-F.Product chain) names = W32
width_by (Expr-F.Unary mark at operand) names = W32
width_by (Expr-F.Cast at to operand) names = width_of to
width_by (Expr-F.Number at value) names = W32
width_by (Expr-F.Spot spot) names = spot_width spot.kind names
width_by (Expr-F.Call call) names = call_width (thing_of call.name.name names) call.name.name
width_by (Expr-F.Parenthesis at inner) names = inner.width names
width_by (Expr-F.Address at spot) names = W32

-- ---- first tokens and constants

abbrev pub first_by : Expr-F Meant → Position
first_by (Expr-F.Or chain) = chain.at
first_by (Expr-F.And chain) = chain.at
first_by (Expr-F.Equality chain) = chain.at
first_by (Expr-F.Relation chain) = chain.at
first_by (Expr-F.Sum chain) = chain.at
first_by (Expr-F.Product chain) = chain.at
first_by (Expr-F.Unary mark at operand) = at
first_by (Expr-F.Cast at to operand) = at
first_by (Expr-F.Number at value) = at
first_by (Expr-F.Spot spot) = spot.at
first_by (Expr-F.Call call) = call.name.at
first_by (Expr-F.Parenthesis at inner) = at
first_by (Expr-F.Address at spot) = at

abbrev pub constant_on : {M : Type 0} → (M → Mark) → ℤ → List (Part M Meant) → Option ℤ
constant_on mark z [] = Some z
constant_on mark z (part ∷ rest) =
    and_also part.operand.constant (λ w. and_also (constant_operated (mark part.mark) z w) (λ v. constant_on mark v rest))

abbrev pub constant_by : Expr-F Meant → Option ℤ
constant_by (Expr-F.Or chain) = None
constant_by (Expr-F.And chain) = None
constant_by (Expr-F.Equality chain) = None
constant_by (Expr-F.Relation chain) = None
constant_by (Expr-F.Sum chain) = and_also chain.first.constant (λ z. constant_on sum_mark z chain.rest)
constant_by (Expr-F.Product chain) = and_also chain.first.constant (λ z. constant_on product_mark z chain.rest)
constant_by (Expr-F.Unary mark at operand) = and_also operand.constant (signed mark)
constant_by (Expr-F.Cast at to operand) = and_also operand.constant (λ z. Some (wrapped (width_of to) z))
constant_by (Expr-F.Number at value) = within32 value
constant_by (Expr-F.Spot spot) = None
constant_by (Expr-F.Call call) = None
constant_by (Expr-F.Parenthesis at inner) = inner.constant
constant_by (Expr-F.Address at spot) = None

-- ---- what is handed on as a whole

abbrev pub spot_sight : SpotKind Meant → Names → Sight
spot_sight (spot.Scalar name) names = sight_of (thing_of name.name names)
spot_sight (spot.Element name bracket index) names = no_sight
spot_sight (spot.Pointed star name) names = no_sight
spot_sight (spot.Member object mark mark_at member) names = member_sight names object member
spot_sight (spot.MemberElement object mark mark_at member bracket index) names = no_sight

abbrev pub sight_by : Expr-F Meant → Names → Sight
sight_by (Expr-F.Or chain) names = no_sight
sight_by (Expr-F.And chain) names = no_sight
sight_by (Expr-F.Equality chain) names = no_sight
sight_by (Expr-F.Relation chain) names = no_sight
sight_by (Expr-F.Sum chain) names = no_sight
sight_by (Expr-F.Product chain) names = no_sight
sight_by (Expr-F.Unary mark at operand) names = no_sight
sight_by (Expr-F.Cast at to operand) names = no_sight
sight_by (Expr-F.Number at value) names = no_sight
sight_by (Expr-F.Spot spot) names = spot_sight spot.kind names
sight_by (Expr-F.Call call) names = no_sight
sight_by (Expr-F.Parenthesis at inner) names = inner.sight names
sight_by (Expr-F.Address at spot) names = no_sight

abbrev pub spot_whole : SpotKind Meant → Names → Option Thing
spot_whole (spot.Scalar name) names = thing_of name.name names
spot_whole (spot.Element name bracket index) names = None
spot_whole (spot.Pointed star name) names = None
spot_whole (spot.Member object mark mark_at member) names = None
spot_whole (spot.MemberElement object mark mark_at member bracket index) names = None

-- `&v` of a struct object, and a struct parameter
abbrev pub whole_by : Expr-F Meant → Names → Option Thing
whole_by (Expr-F.Or chain) names = None
whole_by (Expr-F.And chain) names = None
whole_by (Expr-F.Equality chain) names = None
whole_by (Expr-F.Relation chain) names = None
whole_by (Expr-F.Sum chain) names = None
whole_by (Expr-F.Product chain) names = None
whole_by (Expr-F.Unary mark at operand) names = None
whole_by (Expr-F.Cast at to operand) names = None
whole_by (Expr-F.Number at value) names = None
whole_by (Expr-F.Spot spot) names = spot_whole spot.kind names
whole_by (Expr-F.Call call) names = None
whole_by (Expr-F.Parenthesis at inner) names = inner.whole names
whole_by (Expr-F.Address at spot) names = spot_whole spot.kind names

-- The number of the site of a token and kind, and what a call of a function does.
module _ (site : ℕ → SiteKind → ℕ) (calls : Function → Bound → State → Got ℤ) where
  -- ---- spots

  -- the place of a spot, after the test of its index
  abbrev pub find : SpotKind Meant → Doing Place
  find (spot.Scalar name) names s = Gives (place_of (thing_of name.name names)) s
  find (spot.Element name bracket index) names s =
      then_get (index.number names s) (reach (site bracket.token kind.Index) (sight_of (thing_of name.name names)))
  find (spot.Pointed star name) names s = reach (site star.token kind.Index) (sight_of (thing_of name.name names)) (pos 0) s
  find (spot.Member object mark mark_at member) names s = Gives (At (member_key (thing_of object.name names) member.name) 0) s
  find (spot.MemberElement object mark mark_at member bracket index) names s =
      then_get (index.number names s) (reach (site bracket.token kind.Index) (member_sight names object member))

  -- the number there; a scalar is always set
  abbrev pub fetch : SpotKind Meant → Place → State → Got ℤ
  fetch (spot.Scalar name) place s = Gives (set_number (number_at place s)) s
  fetch (spot.Element name bracket index) place s = read (site bracket.token kind.Index) (number_at place s) s
  fetch (spot.Pointed star name) place s = read (site star.token kind.Index) (number_at place s) s
  fetch (spot.Member object mark mark_at member) place s = Gives (set_number (number_at place s)) s
  fetch (spot.MemberElement object mark mark_at member bracket index) place s = read (site bracket.token kind.Index) (number_at place s) s

  abbrev pub spot_number : SpotKind Meant → Doing ℤ
  spot_number spot names s = then_get (find spot names s) (fetch spot)

  -- ---- numbers

  abbrev pub no_number : Doing ℤ
  no_number names s = Gives (pos 0) s

  abbrev pub links : {M : Type 0} → (M → Mark) → List (Part M Meant) → Names → ℤ → State → Got ℤ
  links mark [] names z s = Gives z s
  links mark (part ∷ rest) names z s =
      then_get (part.operand.number names s) (λ w s.
      then_get (computed (site part.at.token kind.Arithmetic) (exact (plain_of (mark part.mark)) z w) s) (links mark rest names))

  abbrev pub signed_number : UnaryMark → Position → Meant → Doing ℤ
  signed_number unary.Minus at operand names s =
      then_get (operand.number names s) (λ z s. computed (site at.token kind.Arithmetic) (neg_ℤ z) s)
  signed_number unary.Plus at operand names s = operand.number names s
  signed_number unary.Not at operand names s = no_number names s

  -- a value that goes to a type, at its first token
  abbrev pub passed : Width → Meant → Doing ℤ
  passed width argument names s =
      then_get (argument.number names s) (converted (narrows width argument.constant (argument.width names)) (site argument.first.token kind.Narrowing))

  -- ---- calls

  abbrev pub operands : List Width → List Meant → Doing (List ℤ)
  operands [] arguments names s = Gives [] s
  operands (width ∷ widths) [] names s = Gives [] s
  operands (width ∷ widths) (argument ∷ rest) names s =
      then_get (passed width argument names s) (λ z s. then_get (operands widths rest names s) (λ zs s. Gives (z ∷ zs) s))

  abbrev pub with_scalar : Option Identifier → Width → ℤ → Bound → Bound
  with_scalar None width z bound = bound
  with_scalar (Some name) width z bound =
      record { names = (name.name, Scalar width (Variable name.at.token)) ∷ bound.names; numbers = (name.at.token, z) ∷ bound.numbers }

  abbrev pub with_view : Option Identifier → Width → Sight → Bound → Bound
  with_view None width sight bound = bound
  with_view (Some name) width sight bound = record bound { names = (name.name, Array width sight.key sight.offset) ∷ bound.names }

  abbrev pub with_whole : Option Identifier → Option Thing → Bound → Bound
  with_whole None thing bound = bound
  with_whole (Some name) None bound = bound
  with_whole (Some name) (Some thing) bound = record bound { names = (name.name, thing) ∷ bound.names }

  -- a parameter and its argument: a number converted, a view, or the struct object itself
  abbrev pub bind : ParameterKind → Option Identifier → Meant → Bound → Doing Bound
  bind (parameter.Scalar base) name argument bound names s =
      then_get (passed (width_of base) argument names s) (λ z s. Gives (with_scalar name (width_of base) z bound) s)
  bind (parameter.Array element bracket length) name argument bound names s =
      then_get (argument.view names s) (λ sight s. Gives (with_view name (width_of element) sight bound) s)
  bind (parameter.Pointer base) name argument bound names s =
      then_get (argument.view names s) (λ sight s. Gives (with_view name (width_of base) sight bound) s)
  bind (parameter.Struct structure) name argument bound names s = Gives (with_whole name (argument.whole names) bound) s

  abbrev pub bind_all : List Parameter → List Meant → Bound → Doing Bound
  bind_all [] arguments bound names s = Gives bound s
  bind_all (parameter ∷ parameters) [] bound names s = Gives bound s
  bind_all (parameter ∷ parameters) (argument ∷ rest) bound names s =
      then_get (bind parameter.kind parameter.name argument bound names s) (λ bound. bind_all parameters rest bound names)

  abbrev pub operator_call : Option Op → Identifier → List Meant → Doing ℤ
  operator_call None name arguments names s = no_number names s
  operator_call (Some op) name arguments names s =
      then_get (operands (arg_widths_of op) arguments names s) (operate op (site name.at.token (kind.Operator op)))

  abbrev pub called : Option Thing → Call Meant → Doing ℤ
  called None call names s = operator_call (op_named call.name.name) call.name call.arguments names s
  called (Some (Scalar width key)) call names s = no_number names s
  called (Some (Array width key offset)) call names s = no_number names s
  called (Some (Structure token fields)) call names s = no_number names s
  called (Some (Routine function)) call names s =
      then_get (bind_all function.parameters call.arguments (record { names = []; numbers = [] }) names s) (calls function)

  abbrev pub call_number : Call Meant → Doing ℤ
  call_number call names s = called (thing_of call.name.name names) call names s

  abbrev pub number_by : Expr-F Meant → Doing ℤ
  number_by (Expr-F.Or chain) names s = no_number names s
  number_by (Expr-F.And chain) names s = no_number names s
  number_by (Expr-F.Equality chain) names s = no_number names s
  number_by (Expr-F.Relation chain) names s = no_number names s
  number_by (Expr-F.Sum chain) names s = then_get (chain.first.number names s) (links sum_mark chain.rest names)
  number_by (Expr-F.Product chain) names s = then_get (chain.first.number names s) (links product_mark chain.rest names)
  number_by (Expr-F.Unary mark at operand) names s = signed_number mark at operand names s
  number_by (Expr-F.Cast at to operand) names s = then_get (operand.number names s) (λ z s. Gives (wrapped (width_of to) z) s)
  number_by (Expr-F.Number at value) names s = Gives value s
  number_by (Expr-F.Spot spot) names s = spot_number spot.kind names s
  number_by (Expr-F.Call call) names s = call_number call names s
  number_by (Expr-F.Parenthesis at inner) names s = inner.number names s
  number_by (Expr-F.Address at spot) names s = no_number names s

  -- a constant expression stands for its value
  abbrev pub settled : Option ℤ → Doing ℤ → Doing ℤ
  settled None go names s = go names s
  settled (Some z) go names s = Gives z s

  -- ---- conditions

  abbrev pub any_of : List (Part (Unit {0}) Meant) → Names → Bool → State → Got Bool
  any_of [] names holds s = Gives holds s
  any_of (part ∷ rest) names true s = Gives true s
  any_of (part ∷ rest) names false s = then_get (part.operand.truth names s) (any_of rest names)

  abbrev pub all_of : List (Part (Unit {0}) Meant) → Names → Bool → State → Got Bool
  all_of [] names holds s = Gives holds s
  all_of (part ∷ rest) names true s = then_get (part.operand.truth names s) (all_of rest names)
  all_of (part ∷ rest) names false s = Gives false s

  -- a comparison has two sides
  abbrev pub compared : {M : Type 0} → (M → Mark) → List (Part M Meant) → Names → ℤ → State → Got Bool
  compared mark [] names z s = Gives false s
  compared mark (part ∷ rest) names z s =
      then_get (part.operand.number names s) (λ w s. Gives (compares (comparison_of (mark part.mark)) z w) s)

  -- a condition holds where its number is not 0
  abbrev pub nonzero : Doing ℤ → Doing Bool
  nonzero go names s = then_get (go names s) (λ z s. Gives (not (int_eq z (pos 0))) s)

  abbrev pub signed_truth : UnaryMark → Meant → Doing Bool → Doing Bool
  signed_truth unary.Minus operand go names s = go names s
  signed_truth unary.Plus operand go names s = go names s
  signed_truth unary.Not operand go names s = then_get (operand.truth names s) (λ holds s. Gives (not holds) s)

  abbrev pub truth_by : Expr-F Meant → Doing Bool → Doing Bool
  truth_by (Expr-F.Or chain) go names s = then_get (chain.first.truth names s) (any_of chain.rest names)
  truth_by (Expr-F.And chain) go names s = then_get (chain.first.truth names s) (all_of chain.rest names)
  truth_by (Expr-F.Equality chain) go names s = then_get (chain.first.number names s) (compared equality_mark chain.rest names)
  truth_by (Expr-F.Relation chain) go names s = then_get (chain.first.number names s) (compared relation_mark chain.rest names)
  truth_by (Expr-F.Sum chain) go names s = go names s
  truth_by (Expr-F.Product chain) go names s = go names s
  truth_by (Expr-F.Unary mark at operand) go names s = signed_truth mark operand go names s
  truth_by (Expr-F.Cast at to operand) go names s = go names s
  truth_by (Expr-F.Number at value) go names s = go names s
  truth_by (Expr-F.Spot spot) go names s = go names s
  truth_by (Expr-F.Call call) go names s = go names s
  truth_by (Expr-F.Parenthesis at inner) go names s = inner.truth names s
  truth_by (Expr-F.Address at spot) go names s = go names s

  -- ---- views

  abbrev pub no_view : Doing Sight
  no_view names s = Gives no_sight s

  -- `a + e`
  abbrev pub offset_view : {M : Type 0} → Meant → List (Part M Meant) → Doing Sight
  offset_view first [] names s = no_view names s
  offset_view first (part ∷ rest) names s =
      then_get (part.operand.number names s) (begin_at (site part.at.token kind.View) (first.sight names))

  abbrev pub address_view : SpotKind Meant → Doing Sight
  address_view (spot.Scalar name) names s = Gives (sight_of (thing_of name.name names)) s
  address_view (spot.Element name bracket index) names s =
      then_get (index.number names s) (begin_at (site bracket.token kind.View) (sight_of (thing_of name.name names)))
  address_view (spot.Pointed star name) names s = no_view names s
  address_view (spot.Member object mark mark_at member) names s = Gives (member_sight names object member) s
  address_view (spot.MemberElement object mark mark_at member bracket index) names s =
      then_get (index.number names s) (begin_at (site bracket.token kind.View) (member_sight names object member))

  abbrev pub view_by : Expr-F Meant → Doing Sight
  view_by (Expr-F.Or chain) names s = no_view names s
  view_by (Expr-F.And chain) names s = no_view names s
  view_by (Expr-F.Equality chain) names s = no_view names s
  view_by (Expr-F.Relation chain) names s = no_view names s
  view_by (Expr-F.Sum chain) names s = offset_view chain.first chain.rest names s
  view_by (Expr-F.Product chain) names s = no_view names s
  view_by (Expr-F.Unary mark at operand) names s = no_view names s
  view_by (Expr-F.Cast at to operand) names s = no_view names s
  view_by (Expr-F.Number at value) names s = no_view names s
  view_by (Expr-F.Spot spot) names s = Gives (spot_sight spot.kind names) s
  view_by (Expr-F.Call call) names s = no_view names s
  view_by (Expr-F.Parenthesis at inner) names s = inner.view names s
  view_by (Expr-F.Address at spot) names s = address_view spot.kind names s

  -- ---- expressions

  abbrev pub meant_step : Expr-F Meant → Meant
  meant_step layer =
      record {
        first = first_by layer;
        constant = constant_by layer;
        width = width_by layer;
        number = settled (constant_by layer) (number_by layer);
        truth = truth_by layer (nonzero (settled (constant_by layer) (number_by layer)));
        sight = sight_by layer;
        view = view_by layer;
        whole = whole_by layer;
      }

  abbrev pub meant : Expr → Meant
  meant = fold-Expr Meant meant_step

  -- ---- parts of statements

  abbrev pub spot_meant : SpotKind Expr → SpotKind Meant
  spot_meant (spot.Scalar name) = spot.Scalar name
  spot_meant (spot.Element name bracket index) = spot.Element name bracket (meant index)
  spot_meant (spot.Pointed star name) = spot.Pointed star name
  spot_meant (spot.Member object mark mark_at member) = spot.Member object mark mark_at member
  spot_meant (spot.MemberElement object mark mark_at member bracket index) = spot.MemberElement object mark mark_at member bracket (meant index)

  abbrev pub all_meant : List Expr → List Meant
  all_meant [] = []
  all_meant (e ∷ rest) = meant e ∷ all_meant rest

  abbrev pub call_meant : Call Expr → Call Meant
  call_meant call = record { name = call.name; arguments = all_meant call.arguments }
