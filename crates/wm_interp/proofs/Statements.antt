-- What the machine does at each statement.
use Rattle.std.proofs.Common.{◌≡◌, ℕ, zero, suc, ◌+◌, ◌-◌, ◌<◌, ◌≤◌, Bool, true, false, ℤ, pos, List, [], ◌∷◌, map, Option, Some, None, refl, sym, ap, ◌∙◌, arith}
use Rattle.std.specs.Option.{option_map_or}
use Rattle.wm_ops.specs.declared.words.Counted.{Counted}
use Rattle.wm_ops.specs.declared.words.ControlWord.TheVariants as word
use Rattle.wm_program.specs.declared.results.End.TheVariants as ends
use Rattle.wm_program.specs.declared.tree.Converted.{Converted}
use Rattle.wm_program.specs.declared.tree.Expr.{Expr}
use Rattle.wm_program.specs.declared.tree.Condition.{Condition}
use Rattle.wm_program.specs.declared.tree.Simple as simple_type
use Rattle.wm_program.specs.declared.tree.Declared.{Declared}
use Rattle.wm_program.specs.declared.tree.Otherwise.{Otherwise}
use Rattle.wm_program.specs.declared.tree.Statement.{Statement}
use Rattle.wm_program.specs.declared.tree.Statement.TheVariants as statement
use Rattle.wm_program.specs.Tree.{Always}
use Rattle.wm_program.specs.Trees.{expression_of, test_of, tree_of, effect_of, fresh_of}
use Rattle.wm_program.specs.State.{Here}
use Rattle.wm_program.specs.Code.{Code, routine_at}
use Rattle.wm_interp.specs.declared.halt.Flow.{Flow}
use Rattle.wm_interp.specs.declared.halt.Flow.TheVariants.{Next, Broke, Continued, Returned}
use Rattle.wm_interp.specs.Held.{Held, Gets, Has, Ends, then_on, go_on, step_on}
use Rattle.wm_interp.specs.Going.{Setting, counting_on}
use Rattle.wm_interp.specs.Doing.{ask_on, perform_on, perform_all_on, perform_step_on, make_all_on, convert_on, or_again, turns_on, loop_on, turn_on, round_on, is_next, branch_on, next_on, exec_on, back_on, entered_on, call_on}
use Rattle.wm_interp.specs.Parts.{tree_all}
use Rattle.wm_interp.proofs.Levels.{of_block, of_empty, of_declare, of_simple, of_if, of_if_else, of_for, of_while, of_do, of_break, of_continue, of_return}

pub on_block : (at : Setting) (statements : List Statement) (q : Held) → exec_on at (tree_of (statement.Block statements)) q ≡ then_on (step_on q) (λ _. exec_on at (tree_all statements))
on_block at statements q = ap (λ x. exec_on at x q) (of_block statements)

pub on_empty : (at : Setting) (q : Held) → exec_on at (tree_of statement.Empty) q ≡ next_on (step_on q)
on_empty at q = ap (λ x. exec_on at x q) of_empty

pub on_declare : (at : Setting) (declared : List Declared) (q : Held) → exec_on at (tree_of (statement.Declare declared)) q ≡ then_on (step_on q) (λ _ q. next_on (make_all_on at (map fresh_of declared) q))
on_declare at declared q = ap (λ x. exec_on at x q) (of_declare declared)

pub on_simple : (at : Setting) (x : simple_type.Simple) (q : Held) → exec_on at (tree_of (statement.Simple x)) q ≡ then_on (step_on q) (λ _ q. next_on (perform_on at (effect_of x) q))
on_simple at x q = ap (λ x. exec_on at x q) (of_simple x)

pub on_if : (at : Setting) (is_counted : Bool) (c : Condition) (first : Statement) (q : Held) → exec_on at (tree_of (statement.If is_counted c first None)) q ≡ then_on (step_on q) (λ _ q. then_on (ask_on at (test_of c) (counting_on at is_counted word.If q)) (λ holds. branch_on holds (exec_on at (tree_of first)) (Has Next)))
on_if at is_counted c first q = ap (λ x. exec_on at x q) (of_if is_counted c first)

pub on_if_else : (at : Setting) (is_counted : Bool) (c : Condition) (first : Statement) (other : Otherwise Statement) (q : Held) → exec_on at (tree_of (statement.If is_counted c first (Some other))) q ≡ then_on (step_on q) (λ _ q. then_on (ask_on at (test_of c) (counting_on at is_counted word.If q)) (λ holds. branch_on holds (exec_on at (tree_of first)) (λ q. exec_on at (tree_of other.body) (counting_on at other.is_counted word.Else q))))
on_if_else at is_counted c first other q = ap (λ x. exec_on at x q) (of_if_else is_counted c first other)

pub on_for : (at : Setting) (is_counted : Bool) (number : ℕ) (begin : List simple_type.Simple) (c : Option Condition) (step : List simple_type.Simple) (body : Statement) (q : Held) → exec_on at (tree_of (statement.For is_counted number begin c step body)) q ≡ then_on (step_on q) (λ _ q. then_on (perform_all_on at (map effect_of begin) (counting_on at is_counted word.For q)) (λ _. loop_on (turn_on at false (option_map_or test_of c Always) (exec_on at (tree_of body)) (perform_step_on at (map effect_of step)))))
on_for at is_counted number begin c step body q = ap (λ x. exec_on at x q) (of_for is_counted number begin c step body)

pub on_while : (at : Setting) (is_counted : Bool) (number : ℕ) (c : Condition) (body : Statement) (q : Held) → exec_on at (tree_of (statement.While is_counted number c body)) q ≡ then_on (step_on q) (λ _. loop_on (turn_on at is_counted (test_of c) (exec_on at (tree_of body)) (perform_step_on at [])))
on_while at is_counted number c body q = ap (λ x. exec_on at x q) (of_while is_counted number c body)

pub on_do : (at : Setting) (is_counted is_tail_counted : Bool) (number : ℕ) (body : Statement) (c : Condition) (q : Held) → exec_on at (tree_of (statement.Do is_counted is_tail_counted number body c)) q ≡ then_on (step_on q) (λ _ q. loop_on (round_on at is_tail_counted (test_of c) (exec_on at (tree_of body))) (counting_on at is_counted word.Do q))
on_do at is_counted is_tail_counted number body c q = ap (λ x. exec_on at x q) (of_do is_counted is_tail_counted number body c)

pub on_break : (at : Setting) (is_counted : Bool) (q : Held) → exec_on at (tree_of (statement.Break is_counted)) q ≡ then_on (step_on q) (λ _ q. Has Broke (counting_on at is_counted word.Break q))
on_break at is_counted q = ap (λ x. exec_on at x q) (of_break is_counted)

pub on_continue : (at : Setting) (is_counted : Bool) (q : Held) → exec_on at (tree_of (statement.Continue is_counted)) q ≡ then_on (step_on q) (λ _ q. Has Continued (counting_on at is_counted word.Continue q))
on_continue at is_counted q = ap (λ x. exec_on at x q) (of_continue is_counted)

pub on_return : (at : Setting) (x : Converted Expr) (q : Held) → exec_on at (tree_of (statement.Return (Some x))) q ≡ then_on (step_on q) (λ _ q. then_on (convert_on at (expression_of x.value) x.narrowing q) (λ z. Has (Returned z)))
on_return at x q = ap (λ x. exec_on at x q) (of_return (Some x))

pub on_leave : (at : Setting) (q : Held) → exec_on at (tree_of (statement.Return None)) q ≡ then_on (step_on q) (λ _. Has (Returned (pos 0)))
on_leave at q = ap (λ x. exec_on at x q) (of_return None)

-- what does not go on ends there
pub go_past : (flow : Flow) (q : Held) (go : Held → Gets Flow) → is_next flow ≡ false → go_on (Has flow q) go ≡ Has flow q
go_past Next q go h = cc
go_past Broke q go h = refl
go_past Continued q go h = refl
go_past (Returned z) q go h = refl

pub go_next : (flow : Flow) (q : Held) (go : Held → Gets Flow) → is_next flow ≡ true → go_on (Has flow q) go ≡ go q
go_next Next q go h = refl
go_next Broke q go h = cc
go_next Continued q go h = cc
go_next (Returned z) q go h = cc

-- ---- loops

turns_suc : (n : ℕ) (turn : Held → Gets (Option Flow)) (q : Held) → turns_on (suc n) turn q ≡ then_on (turn q) (λ ended. or_again ended (turns_on n turn))
unfolding turns_on
turns_suc n turn q = refl

pub turns_next : (most made : ℕ) (turn : Held → Gets (Option Flow)) (q : Held) → made < most → turns_on (most - made) turn q ≡ then_on (turn q) (λ ended. or_again ended (turns_on (most - (made + 1)) turn))
turns_next most made turn q h =
    let e : most - made ≡ suc (most - (made + 1)) = omega arith in
    ap (λ n. turns_on n turn q) e ∙ turns_suc (most - (made + 1)) turn q

pub turns_last : (most made : ℕ) (turn : Held → Gets (Option Flow)) (q : Held) → most ≤ made → turns_on (most - made) turn q ≡ then_on (turn q) (λ ended. or_again ended (Ends ends.StepLimit))
unfolding turns_on
turns_last most made turn q h = let e : most - made ≡ 0 = omega arith in ap (λ n. turns_on n turn q) e

-- ---- calls

pub call_none : (code : Code) (weights : Counted → Option ℕ) (function : ℕ) (here : Here) (args : List ℤ) (q : Held) → call_on code weights 0 function here args q ≡ Ends ends.StepLimit q
unfolding call_on
call_none code weights function here args q = refl

call_suc : (code : Code) (weights : Counted → Option ℕ) (levels function : ℕ) (here : Here) (args : List ℤ) (q : Held) → call_on code weights (suc levels) function here args q ≡ then_on (exec_on (record { code = code; weights = weights; calls = call_on code weights levels; here = here }) (routine_at code function).body (entered_on code function here args q)) (λ flow. Has (back_on flow))
unfolding call_on
call_suc code weights levels function here args q = refl

pub call_some : (code : Code) (weights : Counted → Option ℕ) (levels function : ℕ) (here : Here) (args : List ℤ) (q : Held) → 0 < levels → call_on code weights levels function here args q ≡ then_on (exec_on (record { code = code; weights = weights; calls = call_on code weights (levels - 1); here = here }) (routine_at code function).body (entered_on code function here args q)) (λ flow. Has (back_on flow))
call_some code weights levels function here args q h =
    let e : levels ≡ suc (levels - 1) = omega arith in
    ap (λ n. call_on code weights n function here args q) e ∙ call_suc code weights (levels - 1) function here args q
