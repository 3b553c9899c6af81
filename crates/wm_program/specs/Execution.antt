-- What expressions, conditions and statements do, by cases. Evaluation is from left to right.
use Rattle.std.specs.Prelude.{ℕ, zero, suc, ◌+◌, Bool, true, false, not, List, [], ◌∷◌, ◌++◌, map, length, replicate, ◌-◌, ℤ, pos, ◌+ℤ◌, neg_ℤ, Option, Some, None}
use Rattle.std.specs.Ordering.{int_eq}
use Rattle.wm_ops.specs.Clamping.{leaves16, leaves32}
use Rattle.wm_ops.specs.declared.operators.Op.{Op}
use Rattle.wm_ops.specs.declared.outcomes.Outcome.{Outcome}
use Rattle.wm_ops.specs.declared.outcomes.Outcome.TheVariants as outcome
use Rattle.wm_ops.specs.declared.words.Counted.TheVariants as counted
use Rattle.wm_ops.specs.declared.words.ControlWord.TheVariants as word
use Rattle.wm_program.specs.declared.program.Root.{Root}
use Rattle.wm_program.specs.declared.program.Root.TheVariants as root
use Rattle.wm_program.specs.declared.results.Cause.TheVariants as cause
use Rattle.wm_program.specs.declared.results.End.TheVariants as ends
use Rattle.wm_program.specs.Numbers.{plain_of, compares, cast_to, clamp_to, is_outside, natural, operator_outcome}
use Rattle.wm_program.specs.Tree.{Expression, Arguments, Test, Target, Effect, Fresh, Tree, Constant, Named, Element, Operator, Invoke, Plain, Negate, Plus, Cast, Done, Value, Whole, From, Always, Either, Both, Not, Compare, Truth, Variable, Item, Assign, Update, Evaluate, Count, Given, Filled, Blank, Listed, Skip, Seq, Block, Empty, Declare, Act, If, IfElse, For, While, Do, Break, Continue, Return, Leave}
use Rattle.wm_program.specs.State.{State, Cells, Here, Place, At, Counts, Evaluated, Failed, Entered, Turned, with_cells, set_number, root_of, offset_of, place_of, number_at, put, noted, counting, flagged, failed_if}
use Rattle.wm_program.specs.Outcomes.{Got, Gives, Halts, Ran, Next, Broke, Continued, Returned, Halted, with_step, then_go, then_get, then_run, choose, turn_on, tested}

-- what a call does: the function's number, where its body runs, the numbers of its arguments (a view's is its offset)
abbrev pub Calls : Type 0
Calls = ℕ → Here → List ℤ → State → Got ℤ

-- ---- single operations

-- a conversion to 16 bits, where it is a site
abbrev pub converted : Option ℕ → ℤ → State → Got ℤ
converted None z s = Gives z s
converted (Some site) z s = tested site cause.Narrowing (leaves16 z) s (Gives z)

-- a plain operator whose exact value is z
abbrev pub computed : ℕ → ℤ → State → Got ℤ
computed site z s = tested site cause.Arithmetic (leaves32 z) s (Gives z)

abbrev pub operated : ℕ → Outcome → State → Got ℤ
operated site (outcome.Value value saturates flag) s = Gives value (flagged flag (failed_if saturates site cause.Saturates s))
operated site outcome.OutOfDomain s = Halts (ends.Stopped site cause.Domain) (noted (Failed site cause.Domain) s)

-- an operator whose arguments have their numbers: it is counted before its value or domain is looked at
unfoldable pub operate : Op → ℕ → List ℤ → State → Got ℤ
operate op site args s =
    operated site (operator_outcome op args) (noted (Evaluated site) (noted (Counts (counted.Operator op)) s))

-- a cell that is read at a site
abbrev pub read : ℕ → Option ℤ → State → Got ℤ
read site None s = Halts (ends.Stopped site cause.Unset) s
read site (Some z) s = Gives z s

-- the index of an element, offset included, which lies below the length of the root
abbrev pub reach : ℕ → ℕ → Root → ℤ → State → Got Place
reach site length root z s = tested site cause.Index (is_outside length z) s (Gives (At root (natural z)))

-- the beginning of a view, offset included, which may be the end of the root
abbrev pub begin_view : ℕ → ℕ → ℤ → State → Got ℤ
begin_view site length z s = tested site cause.Index (is_outside (suc length) z) s (Gives z)

-- the fill list gives a number, or 0 where it has ended
abbrev pub take_fill : List ℤ → ℤ
take_fill [] = pos 0
take_fill (z ∷ rest) = z

abbrev pub rest_of : List ℤ → List ℤ
rest_of [] = []
rest_of (z ∷ rest) = rest

-- values, and 0 in the cells behind them
abbrev pub listed : ℕ → List ℤ → Cells
listed count values = map Some values ++ replicate (count - length values) (Some (pos 0))

-- what the view parameters of a called function look into
abbrev pub roots_in : Here → Arguments → List Root
roots_in here Done = []
roots_in here (Value x narrowing rest) = roots_in here rest
roots_in here (Whole array rest) = root_of here array ∷ roots_in here rest
roots_in here (From array index site rest) = root_of here array ∷ roots_in here rest

-- where the body of a called function runs
abbrev pub there : Here → ℕ → Arguments → Here
there here offset args = record { instance = here.instance + offset; roots = roots_in here args }

-- How many cells each root has, what calls do, and where the body runs.
module _ (length_of : Root → ℕ) (calls : Calls) (here : Here) where
  abbrev mutual
    pub evaluate : Expression → State → Got ℤ
    evaluate (Constant z) s = Gives z s
    evaluate (Named scalar) s = Gives (set_number (number_at (place_of here scalar) s)) s
    evaluate (Element array index site) s =
        then_get (evaluate index s) (λ i s.
        then_get (reach site (length_of (root_of here array)) (root_of here array) (offset_of here array s +ℤ i) s) (λ place s.
        read site (number_at place s) s))
    evaluate (Operator op args site) s = then_get (evaluate_all args s) (operate op site)
    evaluate (Invoke function offset args) s = then_get (evaluate_all args s) (calls function (there here offset args))
    evaluate (Plain mark x y site) s =
        then_get (evaluate x s) (λ a s. then_get (evaluate y s) (λ b s. computed site (plain_of mark a b) s))
    evaluate (Negate x site) s = then_get (evaluate x s) (λ z s. computed site (neg_ℤ z) s)
    evaluate (Plus x) s = evaluate x s
    evaluate (Cast width x) s = then_get (evaluate x s) (λ z s. Gives (cast_to width z) s)

    -- the numbers of the arguments, each converted right after it was evaluated
    pub evaluate_all : Arguments → State → Got (List ℤ)
    evaluate_all Done s = Gives [] s
    evaluate_all (Value x narrowing rest) s =
        then_get (evaluate x s) (λ z s.
        then_get (converted narrowing z s) (λ z s.
        then_get (evaluate_all rest s) (λ zs s. Gives (z ∷ zs) s)))
    evaluate_all (Whole array rest) s =
        let z = offset_of here array s in
        then_get (evaluate_all rest s) (λ zs s. Gives (z ∷ zs) s)
    evaluate_all (From array index site rest) s =
        then_get (evaluate index s) (λ i s.
        then_get (begin_view site (length_of (root_of here array)) (offset_of here array s +ℤ i) s) (λ z s.
        then_get (evaluate_all rest s) (λ zs s. Gives (z ∷ zs) s)))

  -- ---- conditions

  abbrev pub when_not : Bool → (State → Got Bool) → State → Got Bool
  when_not true go s = Gives true s
  when_not false go s = go s

  abbrev pub when : Bool → (State → Got Bool) → State → Got Bool
  when true go s = go s
  when false go s = Gives false s

  abbrev pub ask : Test → State → Got Bool
  ask Always s = Gives true s
  ask (Either c d) s = then_get (ask c s) (λ holds. when_not holds (ask d))
  ask (Both c d) s = then_get (ask c s) (λ holds. when holds (ask d))
  ask (Not c) s = then_get (ask c s) (λ holds s. Gives (not holds) s)
  ask (Compare x mark y) s =
      then_get (evaluate x s) (λ a s. then_get (evaluate y s) (λ b s. Gives (compares mark a b) s))
  ask (Truth x) s = then_get (evaluate x s) (λ z s. Gives (not (int_eq z (pos 0))) s)

  -- ---- statements without words of their own

  -- the place of a target, after the test of its index
  abbrev pub find : Target → State → Got Place
  find (Variable scalar) s = Gives (place_of here scalar) s
  find (Item array index site) s =
      then_get (evaluate index s) (λ i s.
      reach site (length_of (root_of here array)) (root_of here array) (offset_of here array s +ℤ i) s)

  -- the number at the place of a target
  abbrev pub fetch : Target → Place → State → Got ℤ
  fetch (Variable scalar) place s = Gives (set_number (number_at place s)) s
  fetch (Item array index site) place s = read site (number_at place s) s

  abbrev pub convert_value : Expression → Option ℕ → State → Got ℤ
  convert_value x narrowing s = then_get (evaluate x s) (converted narrowing)

  abbrev pub perform : Effect → State → Ran
  perform (Assign target x narrowing) s =
      then_run (find target s) (λ place s.
      then_run (convert_value x narrowing s) (λ z s. Next (put place z s)))
  perform (Update target mark x arithmetic narrowing) s =
      then_run (find target s) (λ place s.
      then_run (fetch target place s) (λ a s.
      then_run (evaluate x s) (λ b s.
      then_run (computed arithmetic (plain_of mark a b) s) (λ z s.
      then_run (converted narrowing z s) (λ z s. Next (put place z s))))))
  perform (Evaluate x) s = then_run (evaluate x s) (λ z. Next)
  perform (Count call) s = Next (noted (Counts (counted.Call call)) s)

  abbrev pub perform_all : List Effect → State → Ran
  perform_all [] s = Next s
  perform_all (effect ∷ rest) s = then_go (perform effect s) (perform_all rest)

  -- the step part of a for is one elementary step, an absent one is none
  abbrev pub perform_step : List Effect → State → Ran
  perform_step [] s = Next s
  perform_step (effect ∷ rest) s = with_step s (perform_all (effect ∷ rest))

  -- ---- declarations

  abbrev pub own : ℕ → Root
  own local = root.Local here.instance local

  abbrev pub make : Fresh → State → Ran
  make (Given local x narrowing) s =
      then_run (convert_value x narrowing s) (λ z s. Next (put (At (own local) 0) z s))
  make (Filled local width) s =
      Next (put (At (own local) 0) (clamp_to width (take_fill s.fill)) (record s { fill = rest_of s.fill }))
  make (Blank local count) s = Next (with_cells (own local) (replicate count None) s)
  make (Listed local count values) s = Next (with_cells (own local) (listed count values) s)

  abbrev pub make_all : List Fresh → State → Ran
  make_all [] s = Next s
  make_all (fresh ∷ rest) s = then_go (make fresh s) (make_all rest)

-- ---- loops; the fuel is more than the steps that are left, and each turn takes one

-- a for or a while: the test is an elementary step; a turn ends where the test begins again
unfoldable pub turns : ℕ → (State → Got Bool) → (State → Ran) → (State → Ran) → (loop made : ℕ) → State → Ran
turns zero test body after loop made s = Halted ends.StepLimit s
turns (suc fuel) test body after loop made s =
    with_step s (λ s.
    choose (test s)
    (λ s. turn_on (body s) (λ s. then_go (after s) (λ s.
    turns fuel test body after loop (suc made) (noted (Turned loop (suc made)) s))))
    Next)

-- a do: the body comes first; a turn ends where the body begins again
unfoldable pub rounds : ℕ → (State → Got Bool) → (State → Ran) → (loop made : ℕ) → State → Ran
rounds zero test body loop made s = Halted ends.StepLimit s
rounds (suc fuel) test body loop made s =
    turn_on (body s) (λ s.
    with_step s (λ s.
    choose (test s) (λ s. rounds fuel test body loop (suc made) (noted (Turned loop (suc made)) s)) Next))

abbrev pub loop_turns : (State → Got Bool) → (State → Ran) → (State → Ran) → ℕ → State → Ran
loop_turns test body after loop s = turns (suc s.steps) test body after loop 0 s

abbrev pub loop_rounds : (State → Got Bool) → (State → Ran) → ℕ → State → Ran
loop_rounds test body loop s = rounds (suc s.steps) test body loop 0 s

module _ (length_of : Root → ℕ) (calls : Calls) (here : Here) where
  abbrev pub exec : Tree → State → Ran
  exec Skip s = Next s
  exec (Seq first rest) s = then_go (exec first s) (exec rest)
  exec (Block tree) s = with_step s (exec tree)
  exec Empty s = with_step s Next
  exec (Declare fresh) s = with_step s (make_all length_of calls here fresh)
  exec (Act effect) s = with_step s (perform length_of calls here effect)
  exec (If is_counted test then) s =
      with_step s (λ s. choose (ask length_of calls here test (counting is_counted word.If s)) (exec then) Next)
  exec (IfElse is_counted test then is_else_counted otherwise) s =
      with_step s (λ s.
      choose (ask length_of calls here test (counting is_counted word.If s))
      (exec then)
      (λ s. exec otherwise (counting is_else_counted word.Else s)))
  exec (For is_counted loop begin test step body) s =
      with_step s (λ s.
      then_go (perform_all length_of calls here begin (counting is_counted word.For s)) (λ s.
      loop_turns (ask length_of calls here test) (exec body) (perform_step length_of calls here step) loop (noted (Entered loop) s)))
  exec (While is_counted loop test body) s =
      with_step s (λ s.
      loop_turns (λ s. ask length_of calls here test (counting is_counted word.While s)) (exec body) Next loop (noted (Entered loop) s))
  exec (Do is_counted is_tail_counted loop body test) s =
      with_step s (λ s.
      loop_rounds (λ s. ask length_of calls here test (counting is_tail_counted word.While s)) (exec body) loop
      (noted (Entered loop) (counting is_counted word.Do s)))
  exec (Break is_counted) s = with_step s (λ s. Broke (counting is_counted word.Break s))
  exec (Continue is_counted) s = with_step s (λ s. Continued (counting is_counted word.Continue s))
  exec (Return x narrowing) s =
      with_step s (λ s. then_run (convert_value length_of calls here x narrowing s) Returned)
  exec Leave s = with_step s (Returned (pos 0))
