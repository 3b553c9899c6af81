-- The machine does what the definition does: statements, calls and frames.
use Rattle.std.proofs.Common.{◌≡◌, ℕ, zero, suc, ◌+◌, Bool, true, false, List, [], ◌∷◌, ◌++◌, length, map, take, drop, replicate, ℤ, pos, Option, Some, None, refl, sym, ap, ◌∙◌, arith}
use Rattle.std.specs.Prelude.{slice_set, slice_index_or}
use Rattle.wm_ops.specs.declared.words.Counted.{Counted}
use Rattle.wm_ops.specs.declared.words.Counted.TheVariants as counted
use Rattle.wm_ops.specs.declared.words.ControlWord.{ControlWord}
use Rattle.wm_ops.specs.declared.words.ControlWord.TheVariants as word
use Rattle.wm_program.specs.declared.program.Root.{Root}
use Rattle.wm_program.specs.declared.program.Root.TheVariants as root
use Rattle.wm_program.specs.declared.results.End.{End}
use Rattle.wm_program.specs.declared.results.End.TheVariants as ends
use Rattle.wm_program.specs.declared.tree.Scalar.{Scalar}
use Rattle.wm_program.specs.declared.tree.Scalar.TheVariants as scalar
use Rattle.wm_program.specs.Numbers.{plain_of}
use Rattle.wm_program.specs.Tree.{Expression, Test, Target, Effect, Fresh, Tree, Variable, Item, Assign, Update, Evaluate, Count, Given, Filled, Blank, Listed, Skip, Seq, Block, Empty, Declare, Act, If, IfElse, For, While, Do, Break, Continue, Return, Leave}
use Rattle.wm_program.specs.State.{State, Cells, Here, Place, Flag, At, Note, Counts, Entered, Turned, with_cells, place_of, number_at, set_number, put, noted, counting}
use Rattle.wm_program.specs.Outcomes.{Got, Gives, Halts, Ran, Next, Broke, Continued, Returned, Halted, step_from, with_step, then_go, then_get, then_run, choose, turn_on, back}
use Rattle.wm_program.specs.Code.{Code, Input, length_of, routine_at, function_of}
use Rattle.wm_program.specs.Execution.{Calls, converted, computed, reach, evaluate, ask, find, fetch, convert_value, perform, perform_all, perform_step, own, make, make_all, turns, rounds, loop_turns, loop_rounds, exec}
use Rattle.wm_program.specs.Runs.{weight_in, count_of, grouped, entered, call_at, call_root, initial, begun, object_length, with_inputs, Frame, run_init, run_frame, result_of, idle, then_frame, started}
use Rattle.wm_interp.specs.declared.halt.Flow.{Flow}
use Rattle.wm_interp.specs.declared.halt.Flow.TheVariants as flow
use Rattle.wm_interp.specs.declared.halt.Location.{Location}
use Rattle.wm_interp.specs.declared.halt.Location.TheVariants as location
use Rattle.wm_interp.specs.Held.{Held, Gets, Has, Ends, then_on, go_on, step_left, step_on, put_on, with_count}
use Rattle.wm_interp.specs.Going.{Setting, Calling, counting_on, counted_on, converted_on, computed_on, place_seen, reach_on, evaluate_on}
use Rattle.wm_interp.specs.Doing.{ask_on, location_on, find_on, number_on, fetch_on, write_on, convert_on, updated_on, perform_on, perform_all_on, perform_step_on, filled_on, cells_on, make_on, make_all_on, or_again, turns_on, loop_on, ended_by, step_behind, turn_if, test_on, again_if, tail_on, tail_behind, round_on, branch_on, next_on, exec_on, back_on, entered_on, call_on}
use Rattle.wm_interp.specs.Projected.{bare, seen, show, show_run}
use Rattle.wm_interp.proofs.Notes.{seen_counts, seen_entered, seen_turned}
use Rattle.wm_interp.proofs.Arms.{on_and_on, alike_on}
use Rattle.wm_interp.proofs.Agree.{follows, converted_agrees, computed_agrees, number_agrees, read_agrees, reach_agrees, evaluate_agrees, ask_agrees}

-- ---- what joins two statements

pub run_follows : {A : Type 0} (w : Counted → Option ℕ) (got : Got A) (f : A → State → Ran) (on : Gets A) (g : A → Held → Gets Flow) → show w got ≡ on → ((x : A) (s : State) → show_run w (f x s) ≡ g x (seen w s)) → show_run w (then_run got f) ≡ then_on on g
run_follows w (Gives x s) f on g h k = k x s ∙ ap (λ got. then_on got g) h
run_follows w (Halts end s) f on g h k = ap (λ got. then_on got g) h

-- the same, where the machine's location stands for the place
pub place_follows : (w : Counted → Option ℕ) (got : Got Place) (f : Place → State → Ran) (on : Gets Location) (g : Location → Held → Gets Flow) → show w got ≡ then_on on (λ l. Has (place_seen l)) → ((l : Location) (s : State) → show_run w (f (place_seen l) s) ≡ g l (seen w s)) → show_run w (then_run got f) ≡ then_on on g
place_follows w (Gives place s) f (Has l q) g h k =
    let e : place ≡ place_seen l = cc in
    let d : seen w s ≡ q = cc in
    ap (λ x. show_run w (f x s)) e ∙ (k l s ∙ ap (g l) d)
place_follows w (Gives place s) f (Ends end q) g h k = cc
place_follows w (Halts end s) f (Has l q) g h k = cc
place_follows w (Halts end s) f (Ends e q) g h k =
    let a : end ≡ e = cc in
    let b : seen w s ≡ q = cc in
    ap (λ x. Ends x (seen w s)) a ∙ ap (Ends e) b

pub go_follows : (w : Counted → Option ℕ) (ran : Ran) (f : State → Ran) (on : Gets Flow) (g : Held → Gets Flow) → show_run w ran ≡ on → ((s : State) → show_run w (f s) ≡ g (seen w s)) → show_run w (then_go ran f) ≡ go_on on g
go_follows w (Next s) f on g h k = k s ∙ ap (λ got. go_on got g) h
go_follows w (Broke s) f on g h k = ap (λ got. go_on got g) h
go_follows w (Continued s) f on g h k = ap (λ got. go_on got g) h
go_follows w (Returned z s) f on g h k = ap (λ got. go_on got g) h
go_follows w (Halted end s) f on g h k = ap (λ got. go_on got g) h

go_next : (on : Gets (Unit {0})) (g : Held → Gets Flow) → go_on (next_on on) g ≡ then_on on (λ _. g)
go_next (Has x q) g = refl
go_next (Ends end q) g = refl

-- a statement that only goes on or halts, and then another
pub unit_follows : (w : Counted → Option ℕ) (ran : Ran) (f : State → Ran) (on : Gets (Unit {0})) (g : Held → Gets Flow) → show_run w ran ≡ next_on on → ((s : State) → show_run w (f s) ≡ g (seen w s)) → show_run w (then_go ran f) ≡ then_on on (λ _. g)
unit_follows w ran f on g h k = go_follows w ran f (next_on on) g h k ∙ go_next on g

step_n : (w : Counted → Option ℕ) (n : ℕ) (s : State) (f : State → Ran) (g : Held → Gets Flow) → ((s : State) → show_run w (f s) ≡ g (seen w s)) → show_run w (step_from n s f) ≡ then_on (step_left n (seen w s)) (λ _. g)
step_n w zero s f g k = refl
step_n w (suc left) s f g k = k (record s { steps = left })

pub step_follows : (w : Counted → Option ℕ) (s : State) (f : State → Ran) (g : Held → Gets Flow) → ((s : State) → show_run w (f s) ≡ g (seen w s)) → show_run w (with_step s f) ≡ then_on (step_on (seen w s)) (λ _. g)
step_follows w s f g k = step_n w s.steps s f g k

pub choose_follows : (w : Counted → Option ℕ) (got : Got Bool) (f other : State → Ran) (on : Gets Bool) (g h : Held → Gets Flow) → show w got ≡ on → ((s : State) → show_run w (f s) ≡ g (seen w s)) → ((s : State) → show_run w (other s) ≡ h (seen w s)) → show_run w (choose got f other) ≡ then_on on (λ holds. branch_on holds g h)
choose_follows w (Gives true s) f other on g h e k j = k s ∙ ap (λ got. then_on got (λ holds. branch_on holds g h)) e
choose_follows w (Gives false s) f other on g h e k j = j s ∙ ap (λ got. then_on got (λ holds. branch_on holds g h)) e
choose_follows w (Halts end s) f other on g h e k j = ap (λ got. then_on got (λ holds. branch_on holds g h)) e

-- what is put is seen
pub put_agrees : (w : Counted → Option ℕ) (place : Place) (z : ℤ) (s : State) → seen w (put place z s) ≡ put_on place z (seen w s)
put_agrees w Flag z s = refl
put_agrees w (At (root.Object object) index) z s = refl
put_agrees w (At (root.Local instance local) index) z s = refl

pub counting_agrees : (code : Code) (w : Counted → Option ℕ) (machine : Calling) (here : Here) (is_counted : Bool) (of : ControlWord) (s : State) → seen w (counting is_counted of s) ≡ counting_on (record { code = code; weights = w; calls = machine; here = here }) is_counted of (seen w s)
counting_agrees code w machine here true of s = seen_counts w (counted.Word of) s
counting_agrees code w machine here false of s = refl

-- ---- loops

regroup_got : (got : Gets Bool) (F : Bool → Held → Gets (Option Flow)) (G : Bool → Held → Gets Flow) (H : Option Flow → Held → Gets Flow) → ((holds : Bool) (q : Held) → G holds q ≡ then_on (F holds q) H) → then_on got G ≡ then_on (then_on got F) H
regroup_got (Has holds q) F G H k = k holds q
regroup_got (Ends end q) F G H k = refl

-- a step, a test, and what follows it
regroup : (stepped : Gets (Unit {0})) (T : Held → Gets Bool) (F : Bool → Held → Gets (Option Flow)) (G : Bool → Held → Gets Flow) (H : Option Flow → Held → Gets Flow) → ((holds : Bool) (q : Held) → G holds q ≡ then_on (F holds q) H) → then_on stepped (λ _ q. then_on (T q) G) ≡ then_on (then_on (then_on stepped (λ _. T)) F) H
regroup (Has x q) T F G H k = regroup_got (T q) F G H k
regroup (Ends end q) T F G H k = refl

behind_agrees : (w : Counted → Option ℕ) (ran : Ran) (after : State → Ran) (next : State → Ran) (A : Held → Gets (Unit {0})) (K : Held → Gets Flow) → ((s : State) → show_run w (after s) ≡ next_on (A (seen w s))) → ((s : State) → show_run w (next s) ≡ K (seen w s)) → show_run w (turn_on ran (λ s. then_go (after s) next)) ≡ then_on (then_on (show_run w ran) (λ f. step_behind A (ended_by f))) (λ ended. or_again ended K)
behind_agrees w (Next s) after next A K h k = unit_follows w (after s) next (A (seen w s)) K (h s) k ∙ sym (on_and_on (A (seen w s)) _ _)
behind_agrees w (Broke s) after next A K h k = refl
behind_agrees w (Continued s) after next A K h k = unit_follows w (after s) next (A (seen w s)) K (h s) k ∙ sym (on_and_on (A (seen w s)) _ _)
behind_agrees w (Returned z s) after next A K h k = refl
behind_agrees w (Halted end s) after next A K h k = refl

branch_turn : (holds : Bool) (B : Held → Gets Flow) (A : Held → Gets (Unit {0})) (K : Held → Gets Flow) (q : Held) → branch_on holds (λ q. then_on (then_on (B q) (λ f. step_behind A (ended_by f))) (λ ended. or_again ended K)) (Has flow.Next) q ≡ then_on (turn_if holds B A q) (λ ended. or_again ended K)
branch_turn true B A K q = refl
branch_turn false B A K q = refl

turn_agrees : (w : Counted → Option ℕ) (test : State → Got Bool) (body after next : State → Ran) (T : Held → Gets Bool) (B : Held → Gets Flow) (A : Held → Gets (Unit {0})) (K : Held → Gets Flow) → ((s : State) → show w (test s) ≡ T (seen w s)) → ((s : State) → show_run w (body s) ≡ B (seen w s)) → ((s : State) → show_run w (after s) ≡ next_on (A (seen w s))) → ((s : State) → show_run w (next s) ≡ K (seen w s)) → (s : State) → show_run w (with_step s (λ s. choose (test s) (λ s. turn_on (body s) (λ s. then_go (after s) next)) Next)) ≡ then_on (then_on (then_on (step_on (seen w s)) (λ _. T)) (λ holds. turn_if holds B A)) (λ ended. or_again ended K)
turn_agrees w test body after next T B A K ht hb ha hk s =
    step_follows w s _ (λ q. then_on (T q) (λ holds. branch_on holds (λ q. then_on (then_on (B q) (λ f. step_behind A (ended_by f))) (λ ended. or_again ended K)) (Has flow.Next)))
    (λ s. choose_follows w (test s) _ Next _ (λ q. then_on (then_on (B q) (λ f. step_behind A (ended_by f))) (λ ended. or_again ended K)) (Has flow.Next) (ht s)
    (λ s. behind_agrees w (body s) after next A K ha hk ∙ ap (λ on. then_on (then_on on (λ f. step_behind A (ended_by f))) (λ ended. or_again ended K)) (hb s)) (λ s. refl))
    ∙ regroup (step_on (seen w s)) T (λ holds. turn_if holds B A) (λ holds. branch_on holds (λ q. then_on (then_on (B q) (λ f. step_behind A (ended_by f))) (λ ended. or_again ended K)) (Has flow.Next)) (λ ended. or_again ended K) (λ holds q. branch_turn holds B A K q)

-- turns of a for or a while
pub turns_agree : (w : Counted → Option ℕ) (n : ℕ) (test : State → Got Bool) (body after : State → Ran) (loop made : ℕ) (T : Held → Gets Bool) (B : Held → Gets Flow) (A : Held → Gets (Unit {0})) → ((s : State) → show w (test s) ≡ T (seen w s)) → ((s : State) → show_run w (body s) ≡ B (seen w s)) → ((s : State) → show_run w (after s) ≡ next_on (A (seen w s))) → (s : State) → show_run w (turns (suc n) test body after loop made s) ≡ turns_on n (λ q. then_on (then_on (step_on q) (λ _. T)) (λ holds. turn_if holds B A)) (seen w s)
unfolding turns turns_on
turns_agree w zero test body after loop made T B A ht hb ha s =
    turn_agrees w test body after (λ s. turns 0 test body after loop (suc made) (noted (Turned loop (suc made)) s)) T B A (Ends ends.StepLimit) ht hb ha (λ s. ap (Ends ends.StepLimit) (seen_turned w loop (suc made) s)) s
turns_agree w (suc n) test body after loop made T B A ht hb ha s =
    turn_agrees w test body after (λ s. turns (suc n) test body after loop (suc made) (noted (Turned loop (suc made)) s)) T B A (turns_on n (λ q. then_on (then_on (step_on q) (λ _. T)) (λ holds. turn_if holds B A))) ht hb ha (λ s. turns_agree w n test body after loop (suc made) T B A ht hb ha (noted (Turned loop (suc made)) s) ∙ ap (turns_on n (λ q. then_on (then_on (step_on q) (λ _. T)) (λ holds. turn_if holds B A))) (seen_turned w loop (suc made) s)) s

again : (holds : Bool) (K : Held → Gets Flow) (q : Held) → branch_on holds K (Has flow.Next) q ≡ or_again (again_if holds) K q
again true K q = refl
again false K q = refl

tail_agrees : (w : Counted → Option ℕ) (test : State → Got Bool) (next : State → Ran) (T : Held → Gets Bool) (K : Held → Gets Flow) → ((s : State) → show w (test s) ≡ T (seen w s)) → ((s : State) → show_run w (next s) ≡ K (seen w s)) → (s : State) → show_run w (with_step s (λ s. choose (test s) next Next)) ≡ then_on (then_on (then_on (step_on (seen w s)) (λ _. T)) (λ holds. Has (again_if holds))) (λ ended. or_again ended K)
tail_agrees w test next T K ht hk s =
    step_follows w s _ (λ q. then_on (T q) (λ holds. branch_on holds K (Has flow.Next))) (λ s. choose_follows w (test s) next Next _ K (Has flow.Next) (ht s) hk (λ s. refl))
    ∙ regroup (step_on (seen w s)) T (λ holds. Has (again_if holds)) (λ holds. branch_on holds K (Has flow.Next)) (λ ended. or_again ended K) (λ holds q. again holds K q)

round_agrees : (w : Counted → Option ℕ) (ran : Ran) (test : State → Got Bool) (next : State → Ran) (T : Held → Gets Bool) (K : Held → Gets Flow) → ((s : State) → show w (test s) ≡ T (seen w s)) → ((s : State) → show_run w (next s) ≡ K (seen w s)) → show_run w (turn_on ran (λ s. with_step s (λ s. choose (test s) next Next))) ≡ then_on (then_on (show_run w ran) (λ f. tail_behind (λ q. then_on (then_on (step_on q) (λ _. T)) (λ holds. Has (again_if holds))) (ended_by f))) (λ ended. or_again ended K)
round_agrees w (Next s) test next T K ht hk = tail_agrees w test next T K ht hk s
round_agrees w (Broke s) test next T K ht hk = refl
round_agrees w (Continued s) test next T K ht hk = tail_agrees w test next T K ht hk s
round_agrees w (Returned z s) test next T K ht hk = refl
round_agrees w (Halted end s) test next T K ht hk = refl

-- rounds of a do
pub rounds_agree : (w : Counted → Option ℕ) (n : ℕ) (test : State → Got Bool) (body : State → Ran) (loop made : ℕ) (T : Held → Gets Bool) (B : Held → Gets Flow) → ((s : State) → show w (test s) ≡ T (seen w s)) → ((s : State) → show_run w (body s) ≡ B (seen w s)) → (s : State) → show_run w (rounds (suc n) test body loop made s) ≡ turns_on n (λ q. then_on (B q) (λ f. tail_behind (λ q. then_on (then_on (step_on q) (λ _. T)) (λ holds. Has (again_if holds))) (ended_by f))) (seen w s)
unfolding rounds turns_on
rounds_agree w zero test body loop made T B ht hb s =
    round_agrees w (body s) test (λ s. rounds 0 test body loop (suc made) (noted (Turned loop (suc made)) s)) T (Ends ends.StepLimit) ht (λ s. ap (Ends ends.StepLimit) (seen_turned w loop (suc made) s))
    ∙ ap (λ on. then_on (then_on on (λ f. tail_behind (λ q. then_on (then_on (step_on q) (λ _. T)) (λ holds. Has (again_if holds))) (ended_by f))) (λ ended. or_again ended (Ends ends.StepLimit))) (hb s)
rounds_agree w (suc n) test body loop made T B ht hb s =
    round_agrees w (body s) test (λ s. rounds (suc n) test body loop (suc made) (noted (Turned loop (suc made)) s)) T (turns_on n (λ q. then_on (B q) (λ f. tail_behind (λ q. then_on (then_on (step_on q) (λ _. T)) (λ holds. Has (again_if holds))) (ended_by f)))) ht (λ s. rounds_agree w n test body loop (suc made) T B ht hb (noted (Turned loop (suc made)) s) ∙ ap (turns_on n (λ q. then_on (B q) (λ f. tail_behind (λ q. then_on (then_on (step_on q) (λ _. T)) (λ holds. Has (again_if holds))) (ended_by f)))) (seen_turned w loop (suc made) s))
    ∙ ap (λ on. then_on (then_on on (λ f. tail_behind (λ q. then_on (then_on (step_on q) (λ _. T)) (λ holds. Has (again_if holds))) (ended_by f))) (λ ended. or_again ended (turns_on n (λ q. then_on (B q) (λ f. tail_behind (λ q. then_on (then_on (step_on q) (λ _. T)) (λ holds. Has (again_if holds))) (ended_by f)))))) (hb s)
