-- The calls of a well-formed program enter instances that are there, behind the caller's.
use Rattle.std.proofs.Common.{◌≡◌, ℕ, ◌+◌, ◌<◌, ◌≤◌, ⊎_elim, Bool, true, false, List, [], ◌∷◌, ◌++◌, length, Option, Some, None, refl, arith}
use Rattle.std.specs.Prelude.{slice_get}
use Rattle.std.specs.List.{All}
use Rattle.std.proofs.lemmas.List.Elements.{All-head, All-tail}
use Rattle.std.proofs.lemmas.Option.{slice_get_past, slice_get-get_or}
use Rattle.std.proofs.lemmas.Bool.{cases_lt}
use Rattle.wm_ops.specs.declared.operators.Width.{Width}
use Rattle.wm_program.specs.declared.program.InstanceInfo.{InstanceInfo}
use Rattle.wm_program.specs.Code.{Code, Routine, routine_at, function_of, no_routine}
use Rattle.wm_program.specs.Tree.{Expression, Arguments, Test, Target, Effect, Fresh, Tree, Constant, Named, Element, Operator, Invoke, Plain, Negate, Plus, Cast, Done, Value, Whole, From, Always, Either, Both, Not, Compare, Truth, Variable, Item, Assign, Update, Evaluate, Count, Given, Filled, Blank, Listed, Skip, Seq, Block, Empty, Declare, Act, If, IfElse, For, While, Do, Break, Continue, Return, Leave}
use Rattle.wm_program.specs.WellFormed.{Slot, FitsExpression, FitsArguments, FitsDropped, FitsTest, FitsTarget, FitsEffect, FitsFresh, FitsReturn, FitsTree, CallFits, InitFits, Has, Calling, calls_in, calls_in_arguments, calls_in_test, calls_in_target, calls_in_effect, calls_in_effects, calls_in_fresh, calls_of, WellFormedCode}
use Rattle.wm_graph_laws.specs.Each.{Each}
use Rattle.wm_graph_laws.specs.Invoked.{Invokes, InvokesAmong, TestInvokes, TargetInvokes, EffectInvokes, FreshInvokes, TreeInvokes}
use Rattle.wm_graph_laws.specs.Calling.{CallsLater, IsThere, CallsStand}

parts_of : {A : Type 0} (P : A → Type 0) (xs ys : List A) → Each P (xs ++ ys) → Each P xs × Each P ys
parts_of P [] ys h = (tt, h)
parts_of P (x ∷ xs) ys h = let more = parts_of P xs ys h.1 in ((h.0, more.0), more.1)

all_each : {A : Type 0} (P : A → Type 0) (xs : List A) → All P xs → Each P xs
all_each P [] h = tt
all_each P (x ∷ xs) h = (All-head P x xs h, all_each P xs (All-tail P x xs h))

-- a number at which an item has to be is that of an item
has_within : {A : Type 0} (P : A → Type 0) (xs : List A) (k : ℕ) → Has xs k P → k < length xs
has_within P xs k h =
    ⊎_elim (λ less. less) (λ (past : length xs ≤ k). absurd (rw (slice_get_past xs k past) at h)) (cases_lt k (length xs))

module _ (code : Code) (routine : Routine) (instance count : ℕ) where
  abbrev Goes : Calling → Type 0
  Goes calling = instance + calling.offset < count

  abbrev May : ℕ → Type 0
  May offset = (instance < instance + offset) × (instance + offset < count)

  mutual
    expression_invokes : (x : Expression) → FitsExpression code routine x → Each Goes (calls_in x) → Invokes May x
    expression_invokes (Constant z) h c = tt
    expression_invokes (Named scalar) h c = tt
    expression_invokes (Element array index site) h c = expression_invokes index h.1 c
    expression_invokes (Operator op args site) h c = arguments_invoke args _ h.0 c
    expression_invokes (Invoke function offset args) h c = ((omega (arith, h.0.1), c.0), arguments_invoke args _ h.2 c.1)
    expression_invokes (Plain mark x y site) h c =
        let p = parts_of Goes (calls_in x) (calls_in y) c in (expression_invokes x h.0 p.0, expression_invokes y h.1 p.1)
    expression_invokes (Negate x site) h c = expression_invokes x h.0 c
    expression_invokes (Plus x) h c = expression_invokes x h c
    expression_invokes (Cast width x) h c = expression_invokes x h c

    arguments_invoke : (args : Arguments) (slots : List Slot) → FitsArguments code routine args slots → Each Goes (calls_in_arguments args) → InvokesAmong May args
    arguments_invoke Done slots h c = tt
    arguments_invoke (Value x narrowing rest) [] h c = absurd h
    arguments_invoke (Value x narrowing rest) (slot ∷ slots) h c =
        let p = parts_of Goes (calls_in x) (calls_in_arguments rest) c in (expression_invokes x h.1 p.0, arguments_invoke rest slots h.3 p.1)
    arguments_invoke (Whole array rest) [] h c = absurd h
    arguments_invoke (Whole array rest) (slot ∷ slots) h c = arguments_invoke rest slots h.3 c
    arguments_invoke (From array index site rest) [] h c = absurd h
    arguments_invoke (From array index site rest) (slot ∷ slots) h c =
        let p = parts_of Goes (calls_in index) (calls_in_arguments rest) c in (expression_invokes index h.3 p.0, arguments_invoke rest slots h.5 p.1)

  dropped_invokes : (x : Expression) → FitsDropped code routine x → Each Goes (calls_in x) → Invokes May x
  dropped_invokes (Constant z) h c = absurd h
  dropped_invokes (Named scalar) h c = absurd h
  dropped_invokes (Element array index site) h c = absurd h
  dropped_invokes (Operator op args site) h c = expression_invokes (Operator op args site) h c
  dropped_invokes (Invoke function offset args) h c = ((omega (arith, h.0.1), c.0), arguments_invoke args _ h.1 c.1)
  dropped_invokes (Plain mark x y site) h c = absurd h
  dropped_invokes (Negate x site) h c = absurd h
  dropped_invokes (Plus x) h c = absurd h
  dropped_invokes (Cast width x) h c = absurd h

  test_invokes : (test : Test) → FitsTest code routine test → Each Goes (calls_in_test test) → TestInvokes May test
  test_invokes Always h c = tt
  test_invokes (Either a b) h c =
      let p = parts_of Goes (calls_in_test a) (calls_in_test b) c in (test_invokes a h.0 p.0, test_invokes b h.1 p.1)
  test_invokes (Both a b) h c =
      let p = parts_of Goes (calls_in_test a) (calls_in_test b) c in (test_invokes a h.0 p.0, test_invokes b h.1 p.1)
  test_invokes (Not a) h c = test_invokes a h c
  test_invokes (Compare x mark y) h c =
      let p = parts_of Goes (calls_in x) (calls_in y) c in (expression_invokes x h.0 p.0, expression_invokes y h.1 p.1)
  test_invokes (Truth x) h c = expression_invokes x h c

  target_invokes : (target : Target) → FitsTarget code routine target → Each Goes (calls_in_target target) → TargetInvokes May target
  target_invokes (Variable scalar) h c = tt
  target_invokes (Item array index site) h c = expression_invokes index h.2 c

  effect_invokes : (effect : Effect) → FitsEffect code routine effect → Each Goes (calls_in_effect effect) → EffectInvokes May effect
  effect_invokes (Assign target x narrowing) h c =
      let p = parts_of Goes (calls_in_target target) (calls_in x) c in (target_invokes target h.0 p.0, expression_invokes x h.1.0 p.1)
  effect_invokes (Update target mark x arithmetic narrowing) h c =
      let p = parts_of Goes (calls_in_target target) (calls_in x) c in (target_invokes target h.0 p.0, expression_invokes x h.1 p.1)
  effect_invokes (Evaluate x) h c = dropped_invokes x h c
  effect_invokes (Count call) h c = tt

  effects_invoke : (effects : List Effect) → Each (FitsEffect code routine) effects → Each Goes (calls_in_effects effects) → Each (EffectInvokes May) effects
  effects_invoke [] h c = tt
  effects_invoke (effect ∷ rest) h c =
      let p = parts_of Goes (calls_in_effect effect) (calls_in_effects rest) c in (effect_invokes effect h.0 p.0, effects_invoke rest h.1 p.1)

  fresh_invokes : (fresh : List Fresh) → Each (FitsFresh code routine) fresh → Each Goes (calls_in_fresh fresh) → Each (FreshInvokes May) fresh
  fresh_invokes [] h c = tt
  fresh_invokes (Given local x narrowing ∷ rest) h c =
      let p = parts_of Goes (calls_in x) (calls_in_fresh rest) c in (expression_invokes x h.0.1.0 p.0, fresh_invokes rest h.1 p.1)
  fresh_invokes (Filled local width ∷ rest) h c = (tt, fresh_invokes rest h.1 c)
  fresh_invokes (Blank local cells ∷ rest) h c = (tt, fresh_invokes rest h.1 c)
  fresh_invokes (Listed local cells values ∷ rest) h c = (tt, fresh_invokes rest h.1 c)

  return_invokes : (result : Option Width) (x : Expression) (narrowing : Option ℕ) → FitsReturn code routine result x narrowing → Each Goes (calls_in x) → Invokes May x
  return_invokes None x narrowing h c = absurd h
  return_invokes (Some width) x narrowing h c = expression_invokes x h.0 c

  tree_invokes : (function : ℕ) (tree : Tree) (inside : Bool) → FitsTree code routine function tree inside → Each Goes (calls_of tree) → TreeInvokes May tree
  tree_invokes function Skip inside h c = tt
  tree_invokes function (Seq first rest) inside h c =
      let p = parts_of Goes (calls_of first) (calls_of rest) c in (tree_invokes function first inside h.0 p.0, tree_invokes function rest inside h.1 p.1)
  tree_invokes function (Block tree) inside h c = tree_invokes function tree inside h c
  tree_invokes function Empty inside h c = tt
  tree_invokes function (Declare fresh) inside h c = fresh_invokes fresh (all_each (FitsFresh code routine) fresh h) c
  tree_invokes function (Act effect) inside h c = effect_invokes effect h c
  tree_invokes function (If is_counted test first) inside h c =
      let p = parts_of Goes (calls_in_test test) (calls_of first) c in (test_invokes test h.0 p.0, tree_invokes function first inside h.1 p.1)
  tree_invokes function (IfElse is_counted test first is_else_counted otherwise) inside h c =
      let q = parts_of Goes (calls_in_test test ++ calls_of first) (calls_of otherwise) c in
      let p = parts_of Goes (calls_in_test test) (calls_of first) q.0 in
      (test_invokes test h.0 p.0, tree_invokes function first inside h.1 p.1, tree_invokes function otherwise inside h.2 q.1)
  tree_invokes function (For is_counted loop begin test step body) inside h c =
      let r = parts_of Goes (calls_in_effects begin ++ calls_in_test test ++ calls_in_effects step) (calls_of body) c in
      let q = parts_of Goes (calls_in_effects begin ++ calls_in_test test) (calls_in_effects step) r.0 in
      let p = parts_of Goes (calls_in_effects begin) (calls_in_test test) q.0 in
      (effects_invoke begin (all_each (FitsEffect code routine) begin h.1) p.0, test_invokes test h.2 p.1, effects_invoke step (all_each (FitsEffect code routine) step h.3) q.1, tree_invokes function body true h.4 r.1)
  tree_invokes function (While is_counted loop test body) inside h c =
      let p = parts_of Goes (calls_in_test test) (calls_of body) c in (test_invokes test h.1 p.0, tree_invokes function body true h.2 p.1)
  tree_invokes function (Do is_counted is_tail_counted loop body test) inside h c =
      let p = parts_of Goes (calls_of body) (calls_in_test test) c in (tree_invokes function body true h.1 p.0, test_invokes test h.2 p.1)
  tree_invokes function (Break is_counted) inside h c = tt
  tree_invokes function (Continue is_counted) inside h c = tt
  tree_invokes function (Return x narrowing) inside h c = return_invokes routine.result x narrowing h c
  tree_invokes function Leave inside h c = tt

-- ---- programs

module _ (code : Code) (formed : WellFormedCode code) where
  called_within : (instance : ℕ) (info : InstanceInfo) (calls : List Calling) → Each (λ calling. Has code.instances (instance + calling.offset) (CallFits code (record { instance = instance; roots = info.roots }) calling)) calls → Each (Goes code no_routine instance (length code.instances)) calls
  called_within instance info [] h = tt
  called_within instance info (calling ∷ calls) h = (has_within _ code.instances (instance + calling.offset) h.0, called_within instance info calls h.1)

  calls_at : (instance : ℕ) (info : InstanceInfo) → slice_get code.instances instance ≡ Some info → CallsLater code instance
  calls_at instance info is =
      let fits = formed.instances instance info is in
      let routine = routine_at code info.function in
      let body = (formed.routines info.function routine (slice_get-get_or code.routines info.function no_routine fits.function)).body in
      let named : function_of code instance ≡ info.function = rw is refl in
      let invokes = tree_invokes code routine instance (length code.instances) info.function routine.body false body (called_within instance info (calls_of routine.body) (all_each _ (calls_of routine.body) fits.calls)) in
      rw named invokes

  calls_later : (instance : ℕ) → instance < length code.instances → CallsLater code instance
  calls_later instance there = calls_at instance _ (slice_get-get_or code.instances instance no_info there)
    where
      no_info : InstanceInfo
      no_info = record { function = 0; caller = None; call = None; roots = [] }

  init_there : (init : Option ℕ) → InitFits code init → IsThere code init
  init_there None h = tt
  init_there (Some init) h = has_within _ code.instances init h.2

  pub calls_stand : CallsStand code
  calls_stand = record { calls = calls_later; init = init_there code.init formed.init; frame = has_within _ code.instances code.frame formed.frame }
