-- What statements do in a unit with structs. Each statement that begins is an elementary step, so is each test of a loop and each
-- step part of a for.
use Rattle.std.specs.Prelude.{ℕ, zero, suc, Bool, true, false, ◌&&◌, if◌then◌else◌, List, [], ◌∷◌, ◌++◌, length, map, replicate, ℤ, pos, Option, Some, None}
use Rattle.wm_ops.specs.Names.{word_named}
use Rattle.wm_ops.specs.declared.operators.Width.{Width}
use Rattle.wm_ops.specs.declared.operators.Width.TheVariants.{W16, W32}
use Rattle.wm_ops.specs.declared.words.Counted.{Counted}
use Rattle.wm_ops.specs.declared.words.Counted.TheVariants as counted
use Rattle.wm_ops.specs.declared.words.ControlWord.TheVariants as word
use Rattle.wm_lang.specs.declared.expression.Call.{Call}
use Rattle.wm_lang.specs.declared.expression.Expr.{Expr}
use Rattle.wm_lang.specs.declared.expression.Identifier.{Identifier}
use Rattle.wm_lang.specs.declared.expression.Spot.{Spot}
use Rattle.wm_lang.specs.declared.expression.SpotKind.{SpotKind}
use Rattle.wm_lang.specs.declared.place.Position.{Position}
use Rattle.wm_lang.specs.declared.statement.AssignMark.{AssignMark}
use Rattle.wm_lang.specs.declared.statement.AssignMark.TheVariants as assign
use Rattle.wm_lang.specs.declared.statement.Declaration.{Declaration}
use Rattle.wm_lang.specs.declared.statement.Declarator.{Declarator}
use Rattle.wm_lang.specs.declared.statement.Declarator.TheVariants as declarator
use Rattle.wm_lang.specs.declared.statement.Initializer.{Initializer}
use Rattle.wm_lang.specs.declared.statement.InitializerList.{InitializerList}
use Rattle.wm_lang.specs.declared.statement.Simple.{Simple}
use Rattle.wm_lang.specs.declared.statement.Simple.TheVariants as simple
use Rattle.wm_lang.specs.declared.statement.StepMark.{StepMark}
use Rattle.wm_lang.specs.declared.statement.StepMark.TheVariants as step
use Rattle.wm_lang.specs.declared.unit.Function.{Function}
use Rattle.wm_source.specs.Constants.{width_of, wrapped, constant_of}
use Rattle.wm_source.specs.Pieces.{Piece, Pieces, Block, Empty, Act, If, IfElse, For, While, Do, Break, Continue, Return, Done, Declare, Then}
use Rattle.wm_program.specs.declared.program.SiteKind.{SiteKind}
use Rattle.wm_program.specs.declared.program.SiteKind.TheVariants as kind
use Rattle.wm_program.specs.declared.results.End.TheVariants as ends
use Rattle.wm_program.specs.declared.tree.PlainMark.{PlainMark}
use Rattle.wm_program.specs.declared.tree.PlainMark.TheVariants as plain
use Rattle.wm_program.specs.Execution.{take_fill, rest_of, listed}
use Rattle.wm_program.specs.Numbers.{plain_of as exact, clamp_to}
use Rattle.wm_program.specs.State.{Cells, Counts, Entered, Turned}
use Rattle.wm_struct_run.specs.Memory.{State, Key, Variable, Place, cells_of, with_cells, put, noted, counting}
use Rattle.wm_struct_run.specs.Flow.{Got, Gives, Ran, Next, Broke, Continued, Returned, Halted, with_step, then_go, then_get, then_run, choose, turn_on}
use Rattle.wm_struct_run.specs.Names.{Names, Thing, thing_of, name_of, declared, length_of, value_or}
use Rattle.wm_struct_run.specs.Operations.{computed, converted, narrows}
use Rattle.wm_struct_run.specs.Expressions.{Bound, Meant, meant, spot_meant, call_meant, spot_width, find, fetch, call_number}

-- ---- loops; the fuel is more than the steps that are left, and each turn takes one

-- a for or a while: the test is an elementary step; a turn ends where the test begins again
unfoldable pub turns : ℕ → (State → Got Bool) → (State → Ran) → (State → Ran) → (loop made : ℕ) → State → Ran
turns zero test body after loop made s = Halted ends.StepLimit s
turns (suc fuel) test body after loop made s =
    with_step s (λ s.
    choose (test s)
    (λ s. turn_on (body s) (λ s. then_go (after s) (λ s.
    turns fuel test body after loop (suc made) (noted (Turned loop (suc made)) s))))
    Next)

-- a do: the body comes first; a turn ends where the body begins again
unfoldable pub rounds : ℕ → (State → Got Bool) → (State → Ran) → (loop made : ℕ) → State → Ran
rounds zero test body loop made s = Halted ends.StepLimit s
rounds (suc fuel) test body loop made s =
    turn_on (body s) (λ s.
    with_step s (λ s.
    choose (test s) (λ s. rounds fuel test body loop (suc made) (noted (Turned loop (suc made)) s)) Next))

abbrev pub is_wide : Width → Bool
is_wide W16 = false
is_wide W32 = true

abbrev pub no_cells : Cells → Bool
no_cells [] = true
no_cells (cell ∷ rest) = false

abbrev pub mark_of : AssignMark → Option PlainMark
mark_of assign.Plain = None
mark_of assign.Plus = Some plain.Plus
mark_of assign.Minus = Some plain.Minus
mark_of assign.Times = Some plain.Times

abbrev pub step_of : StepMark → PlainMark
step_of step.Increment = plain.Plus
step_of step.Decrement = plain.Minus

-- the first value of a scalar of static storage, and the values of an array
abbrev pub first_value : Width → Option Initializer → Option ℤ
first_value width None = Some (pos 0)
first_value width (Some initial) = Some (wrapped width (value_or (constant_of initial.value)))

abbrev pub list_values : Width → List Expr → List ℤ
list_values width [] = []
list_values width (e ∷ rest) = wrapped width (value_or (constant_of e)) ∷ list_values width rest

abbrev pub values_in : Width → Option InitializerList → List ℤ
values_in width None = []
values_in width (Some list) = list_values width list.values

-- the cells that an object of static storage begins with
abbrev pub static_cells : Width → Declarator → Cells
static_cells width (declarator.Scalar name initial) = first_value width initial ∷ []
static_cells width (declarator.Array name bracket length initial) = listed (length_of length initial) (values_in width initial)

abbrev pub own_key : Declarator → Key
own_key it = Variable (name_of it).at.token

-- a static of a block gets its first values where its declaration is first come to: nothing names it before
abbrev pub make_static : Width → Declarator → State → State
make_static width it s = if no_cells (cells_of (own_key it) s) then with_cells (own_key it) (static_cells width it) s else s

-- the cells of an automatic array as its declaration begins
abbrev pub array_cells : Width → ℕ → Option InitializerList → Cells
array_cells width count None = replicate count None
array_cells width count (Some list) = listed count (list_values width list.values)

-- The number of the site of a token and kind, and what a call of a function does.
module _ (site : ℕ → SiteKind → ℕ) (calls : Function → Bound → State → Got ℤ) where
  -- ---- statements without words of their own

  -- a value that goes to a type at a mark
  abbrev pub stored : Expr → Width → ℕ → Names → State → Got ℤ
  stored value width token names s =
      then_get ((meant site calls value).number names s)
      (converted (narrows width (meant site calls value).constant ((meant site calls value).width names)) (site token kind.Narrowing))

  -- a spot is read, changed by a plain operation at a mark, and written
  abbrev pub update : SpotKind Meant → PlainMark → ℕ → (Names → State → Got ℤ) → Names → State → Ran
  update spot mark token value names s =
      then_run (find site calls spot names s) (λ place s.
      then_run (fetch site calls spot place s) (λ a s.
      then_run (value names s) (λ b s.
      then_run (computed (site token kind.Arithmetic) (exact mark a b) s) (λ z s.
      then_run (converted (narrows (spot_width spot names) None W32) (site token kind.Narrowing) z s) (λ z s. Next (put place z s))))))

  abbrev pub assign_by : Option PlainMark → SpotKind Meant → ℕ → Expr → Names → State → Ran
  assign_by None spot token value names s =
      then_run (find site calls spot names s) (λ place s.
      then_run (stored value (spot_width spot names) token names s) (λ z s. Next (put place z s)))
  assign_by (Some mark) spot token value names s = update spot mark token (meant site calls value).number names s

  abbrev pub one : Names → State → Got ℤ
  one names s = Gives (pos 1) s

  -- a counting call is counted; any other call is made
  abbrev pub counted_call : Option Counted → Call Expr → Names → State → Ran
  counted_call None call names s = then_run (call_number site calls (call_meant site calls call) names s) (λ z. Next)
  counted_call (Some (counted.Operator op)) call names s = then_run (call_number site calls (call_meant site calls call) names s) (λ z. Next)
  counted_call (Some (counted.Call word)) call names s = Next (noted (Counts (counted.Call word)) s)
  counted_call (Some (counted.Word word)) call names s = then_run (call_number site calls (call_meant site calls call) names s) (λ z. Next)

  abbrev pub call_by : Option Thing → Call Expr → Names → State → Ran
  call_by None call names s = counted_call (word_named call.name.name) call names s
  call_by (Some thing) call names s = then_run (call_number site calls (call_meant site calls call) names s) (λ z. Next)

  abbrev pub perform : Simple → Names → State → Ran
  perform (simple.Assign spot mark at value) names s = assign_by (mark_of mark) (spot_meant site calls spot.kind) at.token value names s
  perform (simple.StepAfter spot mark at) names s = update (spot_meant site calls spot.kind) (step_of mark) at.token one names s
  perform (simple.StepBefore mark at spot) names s = update (spot_meant site calls spot.kind) (step_of mark) at.token one names s
  perform (simple.Call call) names s = call_by (thing_of call.name.name names) call names s

  abbrev pub perform_all : List Simple → Names → State → Ran
  perform_all [] names s = Next s
  perform_all (it ∷ rest) names s = then_go (perform it names s) (perform_all rest names)

  -- the step part of a for is one elementary step, an absent one is none
  abbrev pub perform_step : List Simple → Names → State → Ran
  perform_step [] names s = Next s
  perform_step (it ∷ rest) names s = with_step s (perform_all (it ∷ rest) names)

  -- ---- declarations

  abbrev pub make_scalar : Width → Identifier → Option Initializer → Names → State → Ran
  make_scalar width name None names s =
      Next (with_cells (Variable name.at.token) (Some (clamp_to width (take_fill s.fill)) ∷ []) (record s { fill = rest_of s.fill }))
  make_scalar width name (Some initial) names s =
      then_run (stored initial.value width initial.at.token names s) (λ z s. Next (with_cells (Variable name.at.token) (Some z ∷ []) s))

  abbrev pub make_own : Width → Declarator → Names → State → Ran
  make_own width (declarator.Scalar name initial) names s = make_scalar width name initial names s
  make_own width (declarator.Array name bracket length initial) names s =
      Next (with_cells (Variable name.at.token) (array_cells width (length_of length initial) initial) s)

  abbrev pub make : Bool → Width → Declarator → Names → State → Ran
  make true width it names s = Next (make_static width it s)
  make false width it names s = make_own width it names s

  -- from its declarator on a name stands for what it declares
  abbrev pub make_all : Bool → Width → List Declarator → Names → State → Ran
  make_all is_static width [] names s = Next s
  make_all is_static width (it ∷ rest) names s =
      then_go (make is_static width it (declared width it ∷ names) s) (make_all is_static width rest (declared width it ∷ names))

  abbrev pub with_names : Width → List Declarator → Names → Names
  with_names width [] names = names
  with_names width (it ∷ rest) names = with_names width rest (declared width it ∷ names)

  -- ---- conditions

  abbrev pub ask : Expr → Names → State → Got Bool
  ask e names s = (meant site calls e).truth names s

  abbrev pub ask_maybe : Option Expr → Names → State → Got Bool
  ask_maybe None names s = Gives true s
  ask_maybe (Some e) names s = ask e names s

  -- ---- statements

  abbrev pub leave : Option Width → Position → Option Expr → Names → State → Ran
  leave result at None names s = Returned (pos 0) s
  leave None at (Some value) names s = then_run ((meant site calls value).number names s) Returned
  leave (Some width) at (Some value) names s = then_run (stored value width at.token names s) Returned

  abbrev mutual
    -- a statement of a function with this result
    pub exec : Option Width → Piece → Names → State → Ran
    exec result (Block first items last) names s = with_step s (exec_all result items names)
    exec result Empty names s = with_step s Next
    exec result (Act it) names s = with_step s (perform it names)
    exec result (If here condition body) names s =
        with_step s (λ s. choose (ask condition names (counting here.is_counted word.If s)) (exec result body names) Next)
    exec result (IfElse here condition body other otherwise) names s =
        with_step s (λ s.
        choose (ask condition names (counting here.is_counted word.If s))
        (exec result body names)
        (λ s. exec result otherwise names (counting other.is_counted word.Else s)))
    exec result (For here begin condition step body) names s =
        with_step s (λ s.
        then_go (perform_all begin names (counting here.is_counted word.For s)) (λ s.
        turns (suc s.steps) (ask_maybe condition names) (exec result body names) (perform_step step names) here.at.token 0
        (noted (Entered here.at.token) s)))
    exec result (While here condition body) names s =
        with_step s (λ s.
        turns (suc s.steps) (λ s. ask condition names (counting here.is_counted word.While s)) (exec result body names) Next here.at.token 0
        (noted (Entered here.at.token) s))
    exec result (Do here body tail condition) names s =
        with_step s (λ s.
        rounds (suc s.steps) (λ s. ask condition names (counting tail.is_counted word.While s)) (exec result body names) here.at.token 0
        (noted (Entered here.at.token) (counting here.is_counted word.Do s)))
    exec result (Break here) names s = with_step s (λ s. Broke (counting here.is_counted word.Break s))
    exec result (Continue here) names s = with_step s (λ s. Continued (counting here.is_counted word.Continue s))
    exec result (Return at value) names s = with_step s (leave result at value names)

    -- what stands in a block, one after another
    pub exec_all : Option Width → Pieces → Names → State → Ran
    exec_all result Done names s = Next s
    exec_all result (Declare declaration rest) names s =
        with_step s (λ s.
        then_go (make_all declaration.words.is_static (width_of declaration.base) declaration.declarators names s)
        (exec_all result rest (with_names (width_of declaration.base) declaration.declarators names)))
    exec_all result (Then piece rest) names s = then_go (exec result piece names s) (exec_all result rest names)
