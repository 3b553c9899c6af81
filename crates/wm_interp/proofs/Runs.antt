-- The machine does what the definition does: effects, declarations, statements, calls and frames.
use Rattle.std.proofs.Common.{◌≡◌, ℕ, zero, suc, ◌+◌, Bool, true, false, List, [], ◌∷◌, ◌++◌, length, map, take, drop, replicate, ℤ, pos, Option, Some, None, Result, Ok, Err, OnOk, refl, sym, ap, ◌∙◌, arith}
use Rattle.std.specs.Option.{option_map_or}
use Rattle.wm_ops.specs.declared.words.Counted.{Counted}
use Rattle.wm_ops.specs.declared.words.Counted.TheVariants as counted
use Rattle.wm_ops.specs.declared.words.ControlWord.TheVariants as word
use Rattle.wm_program.specs.declared.program.Root.TheVariants as root
use Rattle.wm_program.specs.declared.results.End.{End}
use Rattle.wm_program.specs.declared.results.End.TheVariants as ends
use Rattle.wm_program.specs.declared.results.FrameResult.{FrameResult}
use Rattle.wm_program.specs.declared.tree.Scalar.{Scalar}
use Rattle.wm_program.specs.declared.tree.Scalar.TheVariants as scalar
use Rattle.wm_program.specs.Numbers.{plain_of}
use Rattle.wm_program.specs.Tree.{Expression, Test, Target, Effect, Fresh, Tree, Variable, Item, Assign, Update, Evaluate, Count, Given, Filled, Blank, Listed, Skip, Seq, Block, Empty, Declare, Act, If, IfElse, For, While, Do, Break, Continue, Return, Leave}
use Rattle.wm_program.specs.State.{State, Here, Place, Flag, At, Note, Entered, place_of, number_at, set_number, put, noted, counting}
use Rattle.wm_program.specs.Outcomes.{Got, Gives, Halts, Ran, Next, Broke, Continued, Returned, Halted, then_get, back}
use Rattle.wm_program.specs.Code.{Code, Input, length_of, routine_at, function_of}
use Rattle.wm_program.specs.Execution.{Calls, converted, computed, evaluate, ask, find, fetch, convert_value, perform, perform_all, perform_step, make, make_all, loop_rounds, exec}
use Rattle.wm_program.specs.Runs.{weight_in, count_of, grouped, entered, call_at, call_root, initial, begun, object_length, with_inputs, Frame, run_init, run_frame, result_of, then_frame, started}
use Rattle.wm_interp.specs.declared.halt.Flow.{Flow}
use Rattle.wm_interp.specs.declared.halt.Flow.TheVariants as flow
use Rattle.wm_interp.specs.declared.halt.Location.{Location}
use Rattle.wm_interp.specs.declared.halt.Location.TheVariants as location
use Rattle.wm_interp.specs.Held.{Held, Gets, Has, Ends, then_on, go_on, step_on, put_on}
use Rattle.wm_interp.specs.Going.{Setting, Calling, counting_on, converted_on, computed_on, place_seen, reach_on, evaluate_on}
use Rattle.wm_interp.specs.Doing.{ask_on, location_on, find_on, number_on, fetch_on, write_on, convert_on, updated_on, perform_on, perform_all_on, perform_step_on, filled_on, cells_on, make_on, make_all_on, loop_on, turn_on, round_on, branch_on, next_on, exec_on, back_on, entered_on, call_on, turn_if}
use Rattle.wm_interp.specs.Frames.{Stand, stand_in, begun_on, root_on, init_on, first_held, started_on, input_on, frame_by, frame_on, shown_by}
use Rattle.wm_interp.specs.Projected.{bare, seen, show, show_run, Stands}
use Rattle.wm_interp.proofs.Notes.{seen_counts, seen_entered}
use Rattle.wm_interp.proofs.Arms.{on_and_on, alike_on}
use Rattle.wm_interp.proofs.Agree.{follows, converted_agrees, computed_agrees, number_agrees, read_agrees, reach_agrees, evaluate_agrees, ask_agrees}
use Rattle.wm_interp.proofs.Follow.{run_follows, place_follows, go_follows, unit_follows, step_follows, choose_follows, put_agrees, counting_agrees, turns_agree, rounds_agree}

-- Where something runs, and that calls do the same in both.
module _ (code : Code) (w : Counted → Option ℕ) (calls : Calls) (machine : Calling) (here : Here) (calls_agree : (function : ℕ) (there : Here) (args : List ℤ) (s : State) → show w (calls function there args s) ≡ machine function there args (seen w s)) where
  abbrev at : Setting
  at = record { code = code; weights = w; calls = machine; here = here }

  evaluates : (x : Expression) (s : State) → show w (evaluate (length_of code) calls here x s) ≡ evaluate_on at x (seen w s)
  evaluates = evaluate_agrees code w calls machine here calls_agree

  asks : (c : Test) (s : State) → show w (ask (length_of code) calls here c s) ≡ ask_on at c (seen w s)
  asks = ask_agrees code w calls machine here calls_agree

  converts : (x : Expression) (narrowing : Option ℕ) (s : State) → show w (convert_value (length_of code) calls here x narrowing s) ≡ convert_on at x narrowing (seen w s)
  converts x narrowing s = follows w (evaluate (length_of code) calls here x s) (converted narrowing) (evaluate_on at x (seen w s)) (converted_on narrowing) (evaluates x s) (converted_agrees w narrowing)

  place_is : (scalar : Scalar) → place_of here scalar ≡ place_seen (location_on at scalar)
  place_is scalar.Overflow = refl
  place_is (scalar.Object object) = refl
  place_is (scalar.Local local) = refl

  finds : (target : Target) (s : State) → show w (find (length_of code) calls here target s) ≡ then_on (find_on at target (seen w s)) (λ l. Has (place_seen l))
  finds (Variable scalar) s = ap (λ place. Has place (seen w s)) (place_is scalar)
  finds (Item array index site) s =
      follows w (evaluate (length_of code) calls here index s) _ (evaluate_on at index (seen w s)) (λ i q. then_on (reach_on at array site i q) (λ l. Has (place_seen l))) (evaluates index s) (λ i s. reach_agrees code w calls machine here calls_agree array site i s)
      ∙ sym (on_and_on (evaluate_on at index (seen w s)) (reach_on at array site) (λ l. Has (place_seen l)))

  fetches : (target : Target) (l : Location) (s : State) → show w (fetch (length_of code) calls here target (place_seen l) s) ≡ fetch_on target l (seen w s)
  unfolding number_on
  fetches (Variable scalar) l s = ap (λ n. Has (set_number n) (seen w s)) (number_agrees code w calls machine here calls_agree (place_seen l) s)
  fetches (Item array index site) l s = read_agrees code w calls machine here calls_agree site l s

  performs : (effect : Effect) (s : State) → show_run w (perform (length_of code) calls here effect s) ≡ next_on (perform_on at effect (seen w s))
  unfolding write_on
  performs (Assign target x narrowing) s =
      place_follows w (find (length_of code) calls here target s) _ (find_on at target (seen w s)) (λ l q. then_on (convert_on at x narrowing q) (λ z q. Has flow.Next (write_on l z q))) (finds target s) (λ l s.
      run_follows w (convert_value (length_of code) calls here x narrowing s) _ (convert_on at x narrowing (seen w s)) (λ z q. Has flow.Next (write_on l z q)) (converts x narrowing s) (λ z s. ap (Has flow.Next) (put_agrees w (place_seen l) z s)))
      ∙ sym (on_and_on (find_on at target (seen w s)) _ _ ∙ alike_on (find_on at target (seen w s)) _ _ (λ l q. on_and_on (convert_on at x narrowing q) _ _))
  performs (Update target mark x arithmetic narrowing) s =
      place_follows w (find (length_of code) calls here target s) _ (find_on at target (seen w s)) (λ l q. then_on (fetch_on target l q) (λ a q. then_on (evaluate_on at x q) (λ b q. then_on (computed_on arithmetic (plain_of mark a b) q) (λ z q. then_on (converted_on narrowing z q) (λ z q. Has flow.Next (write_on l z q)))))) (finds target s) (λ l s.
      run_follows w (fetch (length_of code) calls here target (place_seen l) s) _ (fetch_on target l (seen w s)) (λ a q. then_on (evaluate_on at x q) (λ b q. then_on (computed_on arithmetic (plain_of mark a b) q) (λ z q. then_on (converted_on narrowing z q) (λ z q. Has flow.Next (write_on l z q))))) (fetches target l s) (λ a s.
      run_follows w (evaluate (length_of code) calls here x s) _ (evaluate_on at x (seen w s)) (λ b q. then_on (computed_on arithmetic (plain_of mark a b) q) (λ z q. then_on (converted_on narrowing z q) (λ z q. Has flow.Next (write_on l z q)))) (evaluates x s) (λ b s.
      run_follows w (computed arithmetic (plain_of mark a b) s) _ (computed_on arithmetic (plain_of mark a b) (seen w s)) (λ z q. then_on (converted_on narrowing z q) (λ z q. Has flow.Next (write_on l z q))) (computed_agrees w arithmetic (plain_of mark a b) s) (λ z s.
      run_follows w (converted narrowing z s) _ (converted_on narrowing z (seen w s)) (λ z q. Has flow.Next (write_on l z q)) (converted_agrees w narrowing z s) (λ z s. ap (Has flow.Next) (put_agrees w (place_seen l) z s))))))
      ∙ sym (on_and_on (find_on at target (seen w s)) _ _ ∙ alike_on (find_on at target (seen w s)) _ _ (λ l q.
      on_and_on (fetch_on target l q) _ _ ∙ alike_on (fetch_on target l q) _ _ (λ a q.
      on_and_on (evaluate_on at x q) _ _ ∙ alike_on (evaluate_on at x q) _ _ (λ b q.
      on_and_on (computed_on arithmetic (plain_of mark a b) q) _ _ ∙ alike_on (computed_on arithmetic (plain_of mark a b) q) _ _ (λ z q.
      on_and_on (converted_on narrowing z q) _ _)))))
  performs (Evaluate x) s =
      run_follows w (evaluate (length_of code) calls here x s) _ (evaluate_on at x (seen w s)) (λ z. Has flow.Next) (evaluates x s) (λ z s. refl)
      ∙ sym (on_and_on (evaluate_on at x (seen w s)) _ _)
  performs (Count call) s = ap (Has flow.Next) (seen_counts w (counted.Call call) s)

  next_follows : (on : Gets (Unit {0})) (more : Held → Gets (Unit {0})) → then_on on (λ _ q. next_on (more q)) ≡ next_on (then_on on (λ _. more))
  next_follows on more = sym (on_and_on on (λ _. more) (λ _. Has flow.Next))

  performs_all : (effects : List Effect) (s : State) → show_run w (perform_all (length_of code) calls here effects s) ≡ next_on (perform_all_on at effects (seen w s))
  performs_all [] s = refl
  performs_all (effect ∷ rest) s =
      unit_follows w (perform (length_of code) calls here effect s) _ (perform_on at effect (seen w s)) (λ q. next_on (perform_all_on at rest q)) (performs effect s) (performs_all rest)
      ∙ next_follows (perform_on at effect (seen w s)) (perform_all_on at rest)

  performs_step : (effects : List Effect) (s : State) → show_run w (perform_step (length_of code) calls here effects s) ≡ next_on (perform_step_on at effects (seen w s))
  performs_step [] s = refl
  performs_step (effect ∷ rest) s =
      step_follows w s _ (λ q. next_on (perform_all_on at (effect ∷ rest) q)) (performs_all (effect ∷ rest))
      ∙ next_follows (step_on (seen w s)) (perform_all_on at (effect ∷ rest))

  makes : (fresh : Fresh) (s : State) → show_run w (make (length_of code) calls here fresh s) ≡ next_on (make_on at fresh (seen w s))
  unfolding write_on filled_on cells_on
  makes (Given local x narrowing) s =
      run_follows w (convert_value (length_of code) calls here x narrowing s) _ (convert_on at x narrowing (seen w s)) (λ z q. Has flow.Next (write_on (location.Cell (root.Local here.instance local) 0) z q)) (converts x narrowing s) (λ z s. refl)
      ∙ sym (on_and_on (convert_on at x narrowing (seen w s)) _ _)
  makes (Filled local width) s = refl
  makes (Blank local count) s = refl
  makes (Listed local count values) s = refl

  makes_all : (fresh : List Fresh) (s : State) → show_run w (make_all (length_of code) calls here fresh s) ≡ next_on (make_all_on at fresh (seen w s))
  makes_all [] s = refl
  makes_all (one ∷ rest) s =
      unit_follows w (make (length_of code) calls here one s) _ (make_on at one (seen w s)) (λ q. next_on (make_all_on at rest q)) (makes one s) (makes_all rest)
      ∙ next_follows (make_on at one (seen w s)) (make_all_on at rest)

  counts : (is_counted : Bool) (of : _) (s : State) → seen w (counting is_counted of s) ≡ counting_on at is_counted of (seen w s)
  counts is_counted of s = counting_agrees code w machine here is_counted of s

  asks_counted : (is_counted : Bool) (of : _) (c : Test) (s : State) → show w (ask (length_of code) calls here c (counting is_counted of s)) ≡ ask_on at c (counting_on at is_counted of (seen w s))
  asks_counted is_counted of c s = asks c (counting is_counted of s) ∙ ap (ask_on at c) (counts is_counted of s)

  do_agrees : (is_counted is_tail_counted : Bool) (loop : ℕ) (body : Tree) (test : Test) (s : State) → ((s : State) → show_run w (exec (length_of code) calls here body s) ≡ exec_on at body (seen w s)) → show_run w (loop_rounds (λ s. ask (length_of code) calls here test (counting is_tail_counted word.While s)) (exec (length_of code) calls here body) loop (noted (Entered loop) (counting is_counted word.Do s))) ≡ loop_on (round_on at is_tail_counted test (exec_on at body)) (counting_on at is_counted word.Do (seen w s))
  unfolding round_on
  do_agrees is_counted is_tail_counted loop body test s h =
      rounds_agree w (noted (Entered loop) (counting is_counted word.Do s)).steps _ _ loop 0 (λ q. ask_on at test (counting_on at is_tail_counted word.While q)) (exec_on at body) (asks_counted is_tail_counted word.While test) h (noted (Entered loop) (counting is_counted word.Do s))
      ∙ ap (loop_on (round_on at is_tail_counted test (exec_on at body))) (seen_entered w loop (counting is_counted word.Do s) ∙ counts is_counted word.Do s)

  pub exec_agrees : (tree : Tree) (s : State) → show_run w (exec (length_of code) calls here tree s) ≡ exec_on at tree (seen w s)
  unfolding turn_on round_on
  exec_agrees Skip s = refl
  exec_agrees (Seq first rest) s =
      go_follows w (exec (length_of code) calls here first s) _ (exec_on at first (seen w s)) (exec_on at rest) (exec_agrees first s) (exec_agrees rest)
  exec_agrees (Block tree) s = step_follows w s _ (exec_on at tree) (exec_agrees tree)
  exec_agrees Empty s = step_follows w s Next (Has flow.Next) (λ s. refl)
  exec_agrees (Declare fresh) s = step_follows w s _ (λ q. next_on (make_all_on at fresh q)) (makes_all fresh)
  exec_agrees (Act effect) s = step_follows w s _ (λ q. next_on (perform_on at effect q)) (performs effect)
  exec_agrees (If is_counted test first) s =
      step_follows w s _ (λ q. then_on (ask_on at test (counting_on at is_counted word.If q)) (λ holds. branch_on holds (exec_on at first) (Has flow.Next))) (λ s.
      choose_follows w (ask (length_of code) calls here test (counting is_counted word.If s)) _ Next _ (exec_on at first) (Has flow.Next) (asks_counted is_counted word.If test s) (exec_agrees first) (λ s. refl))
  exec_agrees (IfElse is_counted test first is_else_counted other) s =
      step_follows w s _ (λ q. then_on (ask_on at test (counting_on at is_counted word.If q)) (λ holds. branch_on holds (exec_on at first) (λ q. exec_on at other (counting_on at is_else_counted word.Else q)))) (λ s.
      choose_follows w (ask (length_of code) calls here test (counting is_counted word.If s)) _ _ _ (exec_on at first) (λ q. exec_on at other (counting_on at is_else_counted word.Else q)) (asks_counted is_counted word.If test s) (exec_agrees first) (λ s. exec_agrees other (counting is_else_counted word.Else s) ∙ ap (exec_on at other) (counts is_else_counted word.Else s)))
  exec_agrees (For is_counted loop begin test step body) s =
      step_follows w s _ (λ q. then_on (perform_all_on at begin (counting_on at is_counted word.For q)) (λ _. loop_on (turn_on at false test (exec_on at body) (perform_step_on at step)))) (λ s.
      unit_follows w (perform_all (length_of code) calls here begin (counting is_counted word.For s)) _ (perform_all_on at begin (counting_on at is_counted word.For (seen w s))) (loop_on (turn_on at false test (exec_on at body) (perform_step_on at step))) (performs_all begin (counting is_counted word.For s) ∙ ap (λ q. next_on (perform_all_on at begin q)) (counts is_counted word.For s)) (λ s.
      turns_agree w s.steps _ _ _ loop 0 (ask_on at test) (exec_on at body) (perform_step_on at step) (asks test) (exec_agrees body) (performs_step step) (noted (Entered loop) s)
      ∙ ap (loop_on (turn_on at false test (exec_on at body) (perform_step_on at step))) (seen_entered w loop s)))
  exec_agrees (While is_counted loop test body) s =
      step_follows w s _ (loop_on (turn_on at is_counted test (exec_on at body) (perform_step_on at []))) (λ s.
      turns_agree w s.steps _ _ Next loop 0 (λ q. ask_on at test (counting_on at is_counted word.While q)) (exec_on at body) (perform_step_on at []) (asks_counted is_counted word.While test) (exec_agrees body) (λ s. refl) (noted (Entered loop) s)
      ∙ ap (loop_on (turn_on at is_counted test (exec_on at body) (perform_step_on at []))) (seen_entered w loop s))
  exec_agrees (Do is_counted is_tail_counted loop body test) s =
      step_follows w s _ (λ q. loop_on (round_on at is_tail_counted test (exec_on at body)) (counting_on at is_counted word.Do q)) (λ s. do_agrees is_counted is_tail_counted loop body test s (exec_agrees body))
  exec_agrees (Break is_counted) s = step_follows w s _ (λ q. Has flow.Broke (counting_on at is_counted word.Break q)) (λ s. ap (Has flow.Broke) (counts is_counted word.Break s))
  exec_agrees (Continue is_counted) s = step_follows w s _ (λ q. Has flow.Continued (counting_on at is_counted word.Continue q)) (λ s. ap (Has flow.Continued) (counts is_counted word.Continue s))
  exec_agrees (Return x narrowing) s =
      step_follows w s _ (λ q. then_on (convert_on at x narrowing q) (λ z. Has (flow.Returned z))) (λ s.
      run_follows w (convert_value (length_of code) calls here x narrowing s) Returned (convert_on at x narrowing (seen w s)) (λ z. Has (flow.Returned z)) (converts x narrowing s) (λ z s. refl))
  exec_agrees Leave s = step_follows w s (Returned (pos 0)) (Has (flow.Returned (pos 0))) (λ s. refl)

back_agrees : (w : Counted → Option ℕ) (ran : Ran) → show w (back ran) ≡ then_on (show_run w ran) (λ f. Has (back_on f))
back_agrees w (Next s) = refl
back_agrees w (Broke s) = refl
back_agrees w (Continued s) = refl
back_agrees w (Returned z s) = refl
back_agrees w (Halted end s) = refl

pub call_agrees : (code : Code) (w : Counted → Option ℕ) (levels function : ℕ) (here : Here) (args : List ℤ) (s : State) → show w (call_at code levels function here args s) ≡ call_on code w levels function here args (seen w s)
unfolding call_at call_on entered_on
call_agrees code w zero function here args s = refl
call_agrees code w (suc levels) function here args s =
    back_agrees w (exec (length_of code) (call_at code levels) here (routine_at code function).body (entered here (routine_at code function) args s))
    ∙ ap (λ on. then_on on (λ f. Has (back_on f))) (exec_agrees code w (call_at code levels) (call_on code w levels) here (call_agrees code w levels) (routine_at code function).body (entered here (routine_at code function) args s))

-- ---- frames

begun_agrees : (w : Counted → Option ℕ) (steps : ℕ) (s : State) → seen w (begun steps s) ≡ begun_on steps (seen w s)
unfolding count_of grouped
begun_agrees w steps s = refl

root_agrees : (code : Code) (w : Counted → Option ℕ) (instance : ℕ) (s : State) → show w (call_root code instance s) ≡ root_on code w instance (seen w s)
root_agrees code w instance s = call_agrees code w (length code.instances) (function_of code instance) (record { instance = instance; roots = [] }) [] s

init_agrees : (code : Code) (w : Counted → Option ℕ) (init : Option ℕ) (s : State) → stand_in (show w (option_map_or (λ instance. call_root code instance s) init (Gives (pos 0) s))) ≡ init_on code w init (seen w s)
init_agrees code w None s = refl
init_agrees code w (Some instance) s = ap stand_in (root_agrees code w instance s)

first_agrees : (code : Code) (w : Counted → Option ℕ) (fill : List ℤ) → seen w (initial code fill) ≡ first_held code fill
unfolding count_of grouped
first_agrees code w fill = refl

pub started_agrees : (code : Code) (w : Counted → Option ℕ) (fill : List ℤ) (steps : ℕ) → stand_in (show w (started code fill steps)) ≡ started_on code w fill steps
unfolding started_on
started_agrees code w fill steps =
    init_agrees code w code.init (begun steps (initial code fill))
    ∙ ap (init_on code w code.init) (begun_agrees w steps (initial code fill) ∙ ap (begun_on steps) (first_agrees code w fill))

inputs_bare : (code : Code) (inputs : List Input) (values : List ℤ) (s : State) → bare (with_inputs code inputs values s) ≡ with_inputs code inputs values (bare s)
inputs_bare code [] values s = refl
inputs_bare code (input ∷ inputs) values s = inputs_bare code inputs (drop (object_length code input) values) _

inputs_log : (code : Code) (inputs : List Input) (values : List ℤ) (s : State) → (with_inputs code inputs values s).log ≡ s.log
inputs_log code [] values s = refl
inputs_log code (input ∷ inputs) values s = inputs_log code inputs (drop (object_length code input) values) _

inputs_agree : (code : Code) (w : Counted → Option ℕ) (values : List ℤ) (s : State) → seen w (with_inputs code code.inputs values s) ≡ input_on code values (seen w s)
inputs_agree code w values s =
    ap (λ b. record { state = b; count = count_of w (with_inputs code code.inputs values s).log; events = grouped [] (with_inputs code code.inputs values s).log }) (inputs_bare code code.inputs values s)
    ∙ ap (λ log. record { state = with_inputs code code.inputs values (bare s); count = count_of w log; events = grouped [] log }) (inputs_log code code.inputs values s)

pub frame_agrees : (code : Code) (w : Counted → Option ℕ) (ran : Got ℤ) (frame : Frame) → stand_in (show w (then_frame code ran frame)) ≡ frame_on code w frame (stand_in (show w ran))
unfolding frame_on
frame_agrees code w (Gives z s) frame =
    ap stand_in (root_agrees code w code.frame (with_inputs code code.inputs frame.values (begun frame.steps s))
    ∙ ap (root_on code w code.frame) (inputs_agree code w frame.values (begun frame.steps s) ∙ ap (input_on code frame.values) (begun_agrees w frame.steps s)))
frame_agrees code w (Halts end s) frame = ap (λ q. record { held = q; halted = Some end }) (begun_agrees w s.steps s)

pub result_agrees : (w : Counted → Option ℕ) (ran : Got ℤ) → result_of w ran ≡ shown_by (stand_in (show w ran))
result_agrees w (Gives z s) = refl
result_agrees w (Halts end s) = refl

-- what is kept of a start is where the machine then stands
pub kept_stands : {A E : Type 0} (r : Result A E) (code : Code) (w : Counted → Option ℕ) (fill : List ℤ) (steps : ℕ) (stand : Option Stand) (ran : Stand) → OnOk r (stand ≡ Some ran) → ran ≡ started_on code w fill steps → OnOk r (Stands w (started code fill steps) stand)
kept_stands (Ok x) code w fill steps stand ran h k = h ∙ ap Some (k ∙ sym (started_agrees code w fill steps))
kept_stands (Err e) code w fill steps stand ran h k = tt
