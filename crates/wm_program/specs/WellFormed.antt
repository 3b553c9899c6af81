-- A program is well formed: each number names a thing that is there, widths agree, views have their roots, and the
-- instances are numbered depth first.
use Rattle.std.specs.Prelude.{◌≡◌, ℕ, zero, suc, ◌+◌, ◌<◌, ◌≤◌, Bool, true, false, not, ◌||◌, ◌&&◌, ◌⊎◌, List, [], ◌∷◌, ◌++◌, map, length, take, drop, ℤ, pos, Option, Some, None, IsTrue, IsSomeAnd, if◌then◌else◌, ◌==◌, slice_get}
use Rattle.std.specs.List.{All, count_by}
use Rattle.std.specs.Option.{option_map_or}
use Rattle.std.specs.Ordering.{int_eq}
use Rattle.wm_numbers.specs.Within.{IsWord32}
use Rattle.wm_ops.specs.Arguments.{HasWidth}
use Rattle.wm_ops.specs.Clamping.{leaves16}
use Rattle.wm_ops.specs.Operators.{arg_widths_of, result_width_of}
use Rattle.wm_ops.specs.declared.operators.Op.{Op}
use Rattle.wm_ops.specs.declared.operators.Width.{Width}
use Rattle.wm_ops.specs.declared.operators.Width.TheVariants.{W16, W32}
use Rattle.wm_program.specs.declared.program.LocalInfo.{LocalInfo}
use Rattle.wm_program.specs.declared.program.ObjectInfo.{ObjectInfo}
use Rattle.wm_program.specs.declared.program.SiteKind.{SiteKind}
use Rattle.wm_program.specs.declared.program.SiteKind.TheVariants as kind
use Rattle.wm_program.specs.declared.program.InstanceInfo.{InstanceInfo}
use Rattle.wm_program.specs.declared.program.Root.{Root}
use Rattle.wm_program.specs.declared.program.Root.TheVariants as root
use Rattle.wm_program.specs.declared.program.Program.{Program}
use Rattle.wm_program.specs.declared.tree.Scalar.{Scalar}
use Rattle.wm_program.specs.declared.tree.Scalar.TheVariants as scalar
use Rattle.wm_program.specs.declared.tree.Array.{Array}
use Rattle.wm_program.specs.declared.tree.Array.TheVariants as array
use Rattle.wm_program.specs.declared.tree.PlainMark.{PlainMark}
use Rattle.wm_program.specs.declared.tree.PlainMark.TheVariants as mark
use Rattle.wm_program.specs.Tree.{Expression, Arguments, Test, Target, Effect, Fresh, Tree, Constant, Named, Element, Operator, Invoke, Plain, Negate, Plus, Cast, Done, Value, Whole, From, Always, Either, Both, Not, Compare, Truth, Variable, Item, Assign, Update, Evaluate, Count, Given, Filled, Blank, Listed, Skip, Seq, Block, Empty, Declare, Act, If, IfElse, For, While, Do, Break, Continue, Return, Leave}
use Rattle.wm_program.specs.State.{Here, root_of}
use Rattle.wm_program.specs.Code.{Code, Input, Routine, code_of, routine_at}
use Rattle.wm_program.specs.Execution.{roots_in}

-- ---- what a number names

abbrev pub IsSite : Code → ℕ → SiteKind → Type 0
IsSite code site kind = IsSomeAnd (slice_get code.sites site) (λ it. it.kind ≡ kind)

abbrev pub Has : {A : Type 0} → List A → ℕ → (A → Type 0) → Type 0
Has items k P = IsSomeAnd (slice_get items k) P

abbrev pub is_array : Option ℕ → Bool
is_array None = false
is_array (Some length) = true

-- a scalar that is kept by itself, or as an array of length 1 where its address is taken
pub record ScalarLocal (local : LocalInfo) : Type 0 where
  pub no_view : local.view ≡ false
  pub no_array : is_array local.array ≡ false

-- an automatic array, or a scalar whose address is taken
pub record ArrayLocal (local : LocalInfo) : Type 0 where
  pub no_view : local.view ≡ false
  pub has_cells : IsTrue (is_array local.array || local.addressed)

-- an array of static storage, or a scalar whose address is taken
abbrev pub ArrayObject : ObjectInfo → Type 0
ArrayObject object = IsTrue (not object.scalar || object.addressed)

-- the number of view parameters before a local
abbrev pub views_before : Routine → ℕ → ℕ
views_before routine local = count_by (λ it. it.view) (take local routine.locals)

abbrev pub width_from : {A : Type 0} → (A → Width) → List A → ℕ → Width
width_from width items k = option_map_or width (slice_get items k) W32

-- a parameter, or an argument of an operator
pub record Slot : Type 0 where
  pub width : Width
  pub view : Bool

abbrev pub slot_of_width : Width → Slot
slot_of_width width = record { width = width; view = false }

abbrev pub slot_of_local : LocalInfo → Slot
slot_of_local local = record { width = local.width; view = local.view }

abbrev pub operator_slots : Op → List Slot
operator_slots op = map slot_of_width (arg_widths_of op)

abbrev pub routine_slots : Routine → List Slot
routine_slots routine = map slot_of_local (take routine.parameters routine.locals)

-- What a function may name: the program and the function.
module _ (code : Code) (routine : Routine) where
  abbrev pub FitsScalar : Scalar → Type 0
  FitsScalar scalar.Overflow = Unit {0}
  FitsScalar (scalar.Object object) = Has code.objects object (λ it. it.scalar ≡ true)
  FitsScalar (scalar.Local local) = Has routine.locals local ScalarLocal

  abbrev pub FitsArray : Array → Type 0
  FitsArray (array.Object object) = Has code.objects object ArrayObject
  FitsArray (array.Local local) = Has routine.locals local ArrayLocal
  FitsArray (array.View local number) = Has routine.locals local (λ it. it.view ≡ true) × (views_before routine local ≡ number)

  abbrev pub scalar_width : Scalar → Width
  scalar_width scalar.Overflow = W32
  scalar_width (scalar.Object object) = width_from (λ it. it.width) code.objects object
  scalar_width (scalar.Local local) = width_from (λ it. it.width) routine.locals local

  abbrev pub array_width : Array → Width
  array_width (array.Object object) = width_from (λ it. it.width) code.objects object
  array_width (array.Local local) = width_from (λ it. it.width) routine.locals local
  array_width (array.View local number) = width_from (λ it. it.width) routine.locals local

  -- the type of an expression: that of a variable, element, cast, operator or function, else 32 bits
  abbrev pub width_of : Expression → Width
  width_of (Constant z) = W32
  width_of (Named scalar) = scalar_width scalar
  width_of (Element array index site) = array_width array
  width_of (Operator op args site) = result_width_of op
  width_of (Invoke function offset args) = option_map_or (λ width. width) (routine_at code function).result W32
  width_of (Plain mark x y site) = W32
  width_of (Negate x site) = W32
  width_of (Plus x) = W32
  width_of (Cast width x) = width

  -- ---- conversions

  abbrev pub goes_down : Width → Width → Bool
  goes_down W16 W16 = false
  goes_down W32 W16 = true
  goes_down W16 W32 = false
  goes_down W32 W32 = false

  -- a number of 32 bits goes to 16 bits, and is no constant that fits
  abbrev pub needs_site : Expression → Width → Bool
  needs_site (Constant z) W16 = leaves16 z
  needs_site (Constant z) W32 = false
  needs_site (Named scalar) width = goes_down (width_of (Named scalar)) width
  needs_site (Element array index site) width = goes_down (width_of (Element array index site)) width
  needs_site (Operator op args site) width = goes_down (width_of (Operator op args site)) width
  needs_site (Invoke function offset args) width = goes_down (width_of (Invoke function offset args)) width
  needs_site (Plain mark x y site) width = goes_down W32 width
  needs_site (Negate x site) width = goes_down W32 width
  needs_site (Plus x) width = goes_down W32 width
  needs_site (Cast to x) width = goes_down to width

  abbrev pub FitsNarrowing : Bool → Option ℕ → Type 0
  FitsNarrowing false None = Unit {0}
  FitsNarrowing false (Some site) = ⊥
  FitsNarrowing true None = ⊥
  FitsNarrowing true (Some site) = IsSite code site kind.Narrowing

  -- ---- expressions

  -- a divisor is a constant that is not 0
  abbrev pub FitsDivisor : PlainMark → Expression → Type 0
  FitsDivisor mark.Plus y = Unit {0}
  FitsDivisor mark.Minus y = Unit {0}
  FitsDivisor mark.Times y = Unit {0}
  FitsDivisor mark.Divide y = (z : ℤ) × (y ≡ Constant z) × (int_eq z (pos 0) ≡ false)

  -- a call of a function: its number is below that of all functions, and it stands behind the instance of the caller
  abbrev pub FitsCall : ℕ → ℕ → Type 0
  FitsCall function offset = (function < length code.routines) × (0 < offset)

  abbrev pub HasResult : ℕ → Type 0
  HasResult function = IsSomeAnd (routine_at code function).result (λ width. Unit {0})

  abbrev mutual
    pub FitsExpression : Expression → Type 0
    FitsExpression (Constant z) = IsWord32 z
    FitsExpression (Named scalar) = FitsScalar scalar
    FitsExpression (Element array index site) = FitsArray array × FitsExpression index × IsSite code site kind.Index
    FitsExpression (Operator op args site) = FitsArguments args (operator_slots op) × IsSite code site (kind.Operator op)
    FitsExpression (Invoke function offset args) =
        FitsCall function offset × HasResult function × FitsArguments args (routine_slots (routine_at code function))
    FitsExpression (Plain mark x y site) =
        FitsExpression x × FitsExpression y × FitsDivisor mark y × IsSite code site kind.Arithmetic
    FitsExpression (Negate x site) = FitsExpression x × IsSite code site kind.Arithmetic
    FitsExpression (Plus x) = FitsExpression x
    FitsExpression (Cast width x) = FitsExpression x

    pub FitsArguments : Arguments → List Slot → Type 0
    FitsArguments Done [] = Unit {0}
    FitsArguments Done (slot ∷ slots) = ⊥
    FitsArguments (Value x narrowing rest) [] = ⊥
    FitsArguments (Value x narrowing rest) (slot ∷ slots) =
        (slot.view ≡ false) × FitsExpression x × FitsNarrowing (needs_site x slot.width) narrowing × FitsArguments rest slots
    FitsArguments (Whole array rest) [] = ⊥
    FitsArguments (Whole array rest) (slot ∷ slots) =
        (slot.view ≡ true) × FitsArray array × (array_width array ≡ slot.width) × FitsArguments rest slots
    FitsArguments (From array index site rest) [] = ⊥
    FitsArguments (From array index site rest) (slot ∷ slots) =
        (slot.view ≡ true) × FitsArray array × (array_width array ≡ slot.width) × FitsExpression index
        × IsSite code site kind.View × FitsArguments rest slots

  -- an expression whose number goes to a type
  abbrev pub FitsConversion : Expression → Option ℕ → Width → Type 0
  FitsConversion x narrowing width = FitsExpression x × FitsNarrowing (needs_site x width) narrowing

  -- an expression whose number is dropped: it may also be the call of a function without a result
  abbrev pub FitsDropped : Expression → Type 0
  FitsDropped (Constant z) = ⊥
  FitsDropped (Named scalar) = ⊥
  FitsDropped (Element array index site) = ⊥
  FitsDropped (Operator op args site) = FitsExpression (Operator op args site)
  FitsDropped (Invoke function offset args) =
      FitsCall function offset × FitsArguments args (routine_slots (routine_at code function))
  FitsDropped (Plain mark x y site) = ⊥
  FitsDropped (Negate x site) = ⊥
  FitsDropped (Plus x) = ⊥
  FitsDropped (Cast width x) = ⊥

  abbrev pub FitsTest : Test → Type 0
  FitsTest Always = Unit {0}
  FitsTest (Either c d) = FitsTest c × FitsTest d
  FitsTest (Both c d) = FitsTest c × FitsTest d
  FitsTest (Not c) = FitsTest c
  FitsTest (Compare x mark y) = FitsExpression x × FitsExpression y
  FitsTest (Truth x) = FitsExpression x

  -- ---- statements

  -- what is written is not const
  abbrev pub IsWritten : Scalar → Type 0
  IsWritten scalar.Overflow = Unit {0}
  IsWritten (scalar.Object object) = Has code.objects object (λ it. it.constant ≡ false)
  IsWritten (scalar.Local local) = Unit {0}

  abbrev pub IsWrittenArray : Array → Type 0
  IsWrittenArray (array.Object object) = Has code.objects object (λ it. it.constant ≡ false)
  IsWrittenArray (array.Local local) = Unit {0}
  IsWrittenArray (array.View local number) = Unit {0}

  abbrev pub FitsTarget : Target → Type 0
  FitsTarget (Variable scalar) = FitsScalar scalar × IsWritten scalar
  FitsTarget (Item array index site) =
      FitsArray array × IsWrittenArray array × FitsExpression index × IsSite code site kind.Index

  abbrev pub target_width : Target → Width
  target_width (Variable scalar) = scalar_width scalar
  target_width (Item array index site) = array_width array

  abbrev pub FitsEffect : Effect → Type 0
  FitsEffect (Assign target x narrowing) = FitsTarget target × FitsConversion x narrowing (target_width target)
  FitsEffect (Update target mark x arithmetic narrowing) =
      FitsTarget target × FitsExpression x × IsSite code arithmetic kind.Arithmetic
      × FitsNarrowing (goes_down W32 (target_width target)) narrowing
  FitsEffect (Evaluate x) = FitsDropped x
  FitsEffect (Count call) = Unit {0}

  -- a local behind the parameters
  abbrev pub IsAutomatic : ℕ → (LocalInfo → Type 0) → Type 0
  IsAutomatic local P = (routine.parameters ≤ local) × Has routine.locals local P

  abbrev pub FitsFresh : Fresh → Type 0
  FitsFresh (Given local x narrowing) =
      IsAutomatic local ScalarLocal × FitsConversion x narrowing (scalar_width (scalar.Local local))
  FitsFresh (Filled local width) = IsAutomatic local ScalarLocal × (scalar_width (scalar.Local local) ≡ width)
  FitsFresh (Blank local count) = IsAutomatic local (λ it. it.array ≡ Some count)
  FitsFresh (Listed local count values) =
      IsAutomatic local (λ it. (it.array ≡ Some count) × All (HasWidth it.width) values) × (length values ≤ count)

  abbrev pub FitsReturn : Option Width → Expression → Option ℕ → Type 0
  FitsReturn None x narrowing = ⊥
  FitsReturn (Some width) x narrowing = FitsConversion x narrowing width

  abbrev pub FitsLoop : ℕ → ℕ → Type 0
  FitsLoop function loop = Has code.loops loop (λ it. it.function ≡ function)

  -- a statement of the function of this number, inside a loop or not
  abbrev pub FitsTree : ℕ → Tree → Bool → Type 0
  FitsTree function Skip inside = Unit {0}
  FitsTree function (Seq first rest) inside = FitsTree function first inside × FitsTree function rest inside
  FitsTree function (Block tree) inside = FitsTree function tree inside
  FitsTree function Empty inside = Unit {0}
  FitsTree function (Declare fresh) inside = All FitsFresh fresh
  FitsTree function (Act effect) inside = FitsEffect effect
  FitsTree function (If is_counted test first) inside = FitsTest test × FitsTree function first inside
  FitsTree function (IfElse is_counted test first is_else_counted otherwise) inside =
      FitsTest test × FitsTree function first inside × FitsTree function otherwise inside
  FitsTree function (For is_counted loop begin test step body) inside =
      FitsLoop function loop × All FitsEffect begin × FitsTest test × All FitsEffect step × FitsTree function body true
  FitsTree function (While is_counted loop test body) inside =
      FitsLoop function loop × FitsTest test × FitsTree function body true
  FitsTree function (Do is_counted is_tail_counted loop body test) inside =
      FitsLoop function loop × FitsTree function body true × FitsTest test
  FitsTree function (Break is_counted) inside = IsTrue inside
  FitsTree function (Continue is_counted) inside = IsTrue inside
  FitsTree function (Return x narrowing) inside = FitsReturn routine.result x narrowing
  FitsTree function Leave inside = routine.result ≡ None

-- ---- functions, objects, inputs

abbrev pub is_skip : Tree → Bool
is_skip Skip = true
is_skip (Seq first rest) = false
is_skip (Block tree) = false
is_skip Empty = false
is_skip (Declare fresh) = false
is_skip (Act effect) = false
is_skip (If is_counted test first) = false
is_skip (IfElse is_counted test first is_else_counted otherwise) = false
is_skip (For is_counted loop begin test step body) = false
is_skip (While is_counted loop test body) = false
is_skip (Do is_counted is_tail_counted loop body test) = false
is_skip (Break is_counted) = false
is_skip (Continue is_counted) = false
is_skip (Return x narrowing) = false
is_skip Leave = false

-- the last statement is a return, a block that ends so, or an if with an else that both end so
abbrev pub ends_in_return : Tree → Bool
ends_in_return Skip = false
ends_in_return (Seq first rest) = if is_skip rest then ends_in_return first else ends_in_return rest
ends_in_return (Block tree) = ends_in_return tree
ends_in_return Empty = false
ends_in_return (Declare fresh) = false
ends_in_return (Act effect) = false
ends_in_return (If is_counted test first) = false
ends_in_return (IfElse is_counted test first is_else_counted otherwise) = ends_in_return first && ends_in_return otherwise
ends_in_return (For is_counted loop begin test step body) = false
ends_in_return (While is_counted loop test body) = false
ends_in_return (Do is_counted is_tail_counted loop body test) = false
ends_in_return (Break is_counted) = false
ends_in_return (Continue is_counted) = false
ends_in_return (Return x narrowing) = true
ends_in_return Leave = false

abbrev pub EndsInReturn : Option Width → Tree → Type 0
EndsInReturn None tree = Unit {0}
EndsInReturn (Some width) tree = IsTrue (ends_in_return tree)

pub record RoutineFits (code : Code) (function : ℕ) (routine : Routine) : Type 0 where
  pub parameters : routine.parameters ≤ length routine.locals
  -- views are parameters
  pub views : All (λ it. it.view ≡ false) (drop routine.parameters routine.locals)
  pub body : FitsTree code routine function routine.body false
  pub ends : EndsInReturn routine.result routine.body

pub record ObjectFits (object : ObjectInfo) : Type 0 where
  pub not_empty : 0 < object.length
  pub scalar_length : object.scalar ≡ true → object.length ≡ 1
  pub initial_length : length object.initial ≤ object.length
  pub initial_width : All (HasWidth object.width) object.initial

pub record InputFits (code : Code) (input : Input) : Type 0 where
  pub object : Has code.objects input.object (λ it. (it.input ≡ true) × (it.constant ≡ false) × HasWidth it.width input.low × HasWidth it.width input.high)

-- ---- instances

-- a call of a function, as it stands in a body
pub record Calling : Type 0 where
  pub function : ℕ
  pub offset : ℕ
  pub arguments : Arguments

-- the calls in the order of their names in the source
abbrev mutual
  pub calls_in : Expression → List Calling
  calls_in (Constant z) = []
  calls_in (Named scalar) = []
  calls_in (Element array index site) = calls_in index
  calls_in (Operator op args site) = calls_in_arguments args
  calls_in (Invoke function offset args) =
      (record { function = function; offset = offset; arguments = args } ∷ []) ++ calls_in_arguments args
  calls_in (Plain mark x y site) = calls_in x ++ calls_in y
  calls_in (Negate x site) = calls_in x
  calls_in (Plus x) = calls_in x
  calls_in (Cast width x) = calls_in x

  pub calls_in_arguments : Arguments → List Calling
  calls_in_arguments Done = []
  calls_in_arguments (Value x narrowing rest) = calls_in x ++ calls_in_arguments rest
  calls_in_arguments (Whole array rest) = calls_in_arguments rest
  calls_in_arguments (From array index site rest) = calls_in index ++ calls_in_arguments rest

abbrev pub calls_in_test : Test → List Calling
calls_in_test Always = []
calls_in_test (Either c d) = calls_in_test c ++ calls_in_test d
calls_in_test (Both c d) = calls_in_test c ++ calls_in_test d
calls_in_test (Not c) = calls_in_test c
calls_in_test (Compare x mark y) = calls_in x ++ calls_in y
calls_in_test (Truth x) = calls_in x

abbrev pub calls_in_target : Target → List Calling
calls_in_target (Variable scalar) = []
calls_in_target (Item array index site) = calls_in index

abbrev pub calls_in_effect : Effect → List Calling
calls_in_effect (Assign target x narrowing) = calls_in_target target ++ calls_in x
calls_in_effect (Update target mark x arithmetic narrowing) = calls_in_target target ++ calls_in x
calls_in_effect (Evaluate x) = calls_in x
calls_in_effect (Count call) = []

abbrev pub calls_in_effects : List Effect → List Calling
calls_in_effects [] = []
calls_in_effects (effect ∷ rest) = calls_in_effect effect ++ calls_in_effects rest

abbrev pub calls_in_fresh : List Fresh → List Calling
calls_in_fresh [] = []
calls_in_fresh (Given local x narrowing ∷ rest) = calls_in x ++ calls_in_fresh rest
calls_in_fresh (Filled local width ∷ rest) = calls_in_fresh rest
calls_in_fresh (Blank local count ∷ rest) = calls_in_fresh rest
calls_in_fresh (Listed local count values ∷ rest) = calls_in_fresh rest

-- the step part of a for stands before its body
abbrev pub calls_of : Tree → List Calling
calls_of Skip = []
calls_of (Seq first rest) = calls_of first ++ calls_of rest
calls_of (Block tree) = calls_of tree
calls_of Empty = []
calls_of (Declare fresh) = calls_in_fresh fresh
calls_of (Act effect) = calls_in_effect effect
calls_of (If is_counted test first) = calls_in_test test ++ calls_of first
calls_of (IfElse is_counted test first is_else_counted otherwise) = calls_in_test test ++ calls_of first ++ calls_of otherwise
calls_of (For is_counted loop begin test step body) =
    calls_in_effects begin ++ calls_in_test test ++ calls_in_effects step ++ calls_of body
calls_of (While is_counted loop test body) = calls_in_test test ++ calls_of body
calls_of (Do is_counted is_tail_counted loop body test) = calls_of body ++ calls_in_test test
calls_of (Break is_counted) = []
calls_of (Continue is_counted) = []
calls_of (Return x narrowing) = calls_in x
calls_of Leave = []

-- the arrays of which elements are written
abbrev pub written_by : Effect → List Array
written_by (Assign (Variable scalar) x narrowing) = []
written_by (Assign (Item array index site) x narrowing) = array ∷ []
written_by (Update (Variable scalar) mark x arithmetic narrowing) = []
written_by (Update (Item array index site) mark x arithmetic narrowing) = array ∷ []
written_by (Evaluate x) = []
written_by (Count call) = []

abbrev pub written_by_all : List Effect → List Array
written_by_all [] = []
written_by_all (effect ∷ rest) = written_by effect ++ written_by_all rest

abbrev pub written_in : Tree → List Array
written_in Skip = []
written_in (Seq first rest) = written_in first ++ written_in rest
written_in (Block tree) = written_in tree
written_in Empty = []
written_in (Declare fresh) = []
written_in (Act effect) = written_by effect
written_in (If is_counted test first) = written_in first
written_in (IfElse is_counted test first is_else_counted otherwise) = written_in first ++ written_in otherwise
written_in (For is_counted loop begin test step body) = written_by_all begin ++ written_by_all step ++ written_in body
written_in (While is_counted loop test body) = written_in body
written_in (Do is_counted is_tail_counted loop body test) = written_in body
written_in (Break is_counted) = []
written_in (Continue is_counted) = []
written_in (Return x narrowing) = []
written_in Leave = []

-- what holds the cells may be written: a local, or an object that is not const
abbrev pub MayWrite : Code → Root → Type 0
MayWrite code (root.Object object) = Has code.objects object (λ it. it.constant ≡ false)
MayWrite code (root.Local instance local) = Unit {0}

-- the callers of instances, from the number `from` on, whose caller is this one
abbrev pub is_caller : ℕ → Option ℕ → Bool
is_caller instance None = false
is_caller instance (Some caller) = caller == instance

abbrev pub called_from : ℕ → ℕ → List InstanceInfo → List ℕ
called_from instance from [] = []
called_from instance from (info ∷ rest) =
    if is_caller instance info.caller then from ∷ called_from instance (suc from) rest else called_from instance (suc from) rest

-- an instance or one of its callers, through so many of them
abbrev pub is_above : Code → ℕ → ℕ → ℕ → Bool
is_above code zero instance above = false
is_above code (suc fuel) instance above =
    (instance == above)
    || option_map_or (λ it. option_map_or (λ caller. is_above code fuel caller above) it.caller false) (slice_get code.instances instance) false

-- the instance that a call in an instance enters
pub record CallFits (code : Code) (here : Here) (calling : Calling) (info : InstanceInfo) : Type 0 where
  pub function : info.function ≡ calling.function
  pub caller : info.caller ≡ Some here.instance
  pub roots : info.roots ≡ roots_in here calling.arguments

pub record InstanceFits (code : Code) (instance : ℕ) (info : InstanceInfo) : Type 0 where
  pub function : info.function < length code.routines
  pub calls : All (λ calling. Has code.instances (instance + calling.offset) (CallFits code (record { instance = instance; roots = info.roots }) calling)) (calls_of (routine_at code info.function).body)
  -- no element of a const object is written, through views either
  pub writes : All (λ array. MayWrite code (root_of (record { instance = instance; roots = info.roots }) array)) (written_in (routine_at code info.function).body)
  -- they are all that it calls, in the order of the source
  pub called : map (λ calling. instance + calling.offset) (calls_of (routine_at code info.function).body) ≡ called_from instance 0 code.instances
  -- depth first: the instance behind this one is called by this one or by one above it, or is a root
  pub next : Has code.instances (suc instance) (λ it. IsSomeAnd it.caller (λ caller. IsTrue (is_above code (length code.instances) instance caller)) ⊎ (it.caller ≡ None)) ⊎ (length code.instances ≤ suc instance)

-- init and the frame function: called by none, without parameters
pub record RootFits (code : Code) (instance : ℕ) (info : InstanceInfo) : Type 0 where
  pub caller : info.caller ≡ None
  pub roots : info.roots ≡ []
  pub parameters : (routine_at code info.function).parameters ≡ 0

abbrev pub InitFits : Code → Option ℕ → Type 0
InitFits code None = code.frame ≡ 0
InitFits code (Some init) = (init ≡ 0) × (0 < code.frame) × Has code.instances init (RootFits code init)

abbrev pub roots_among : List InstanceInfo → ℕ
roots_among [] = 0
roots_among (info ∷ rest) = option_map_or (λ caller. roots_among rest) info.caller (suc (roots_among rest))

abbrev pub root_count : Option ℕ → ℕ
root_count None = 1
root_count (Some init) = 2

pub record WellFormedCode (code : Code) : Type 0 where
  pub routines : (function : ℕ) (routine : Routine) → slice_get code.routines function ≡ Some routine → RoutineFits code function routine
  pub objects : All ObjectFits code.objects
  pub inputs : All (InputFits code) code.inputs
  pub loops : All (λ it. (it.function < length code.routines) × (0 < it.step) × (it.step < 32768)) code.loops
  pub instances : (instance : ℕ) (info : InstanceInfo) → slice_get code.instances instance ≡ Some info → InstanceFits code instance info
  pub init : InitFits code code.init
  pub frame : Has code.instances code.frame (RootFits code code.frame)
  pub roots : roots_among code.instances ≡ root_count code.init

abbrev pub WellFormed : Program → Type 0
WellFormed program = WellFormedCode (code_of program)
