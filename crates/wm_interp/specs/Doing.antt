-- What conditions, statements and calls do to a machine, by cases, in the order of its own steps.
use Rattle.std.specs.Prelude.{ℕ, zero, suc, Bool, true, false, not, List, [], ◌∷◌, replicate, ℤ, pos, Option, Some, None}
use Rattle.std.specs.Ordering.{int_eq}
use Rattle.wm_ops.specs.declared.operators.Width.{Width}
use Rattle.wm_ops.specs.declared.words.Counted.{Counted}
use Rattle.wm_ops.specs.declared.words.Counted.TheVariants as counted
use Rattle.wm_ops.specs.declared.words.ControlWord.TheVariants as word
use Rattle.wm_program.specs.declared.program.Root.{Root}
use Rattle.wm_program.specs.declared.program.Root.TheVariants as root
use Rattle.wm_program.specs.declared.results.End.TheVariants as ends
use Rattle.wm_program.specs.declared.tree.Scalar.{Scalar}
use Rattle.wm_program.specs.declared.tree.Scalar.TheVariants as scalar
use Rattle.wm_program.specs.Numbers.{plain_of, compares, clamp_to}
use Rattle.wm_program.specs.Tree.{Expression, Test, Target, Effect, Fresh, Tree, Always, Either, Both, Not, Compare, Truth, Variable, Item, Assign, Update, Evaluate, Count, Given, Filled, Blank, Listed, Skip, Seq, Block, Empty, Declare, Act, If, IfElse, For, While, Do, Break, Continue, Return, Leave}
use Rattle.wm_program.specs.State.{State, Cells, Here, Place, At, with_cells, set_number, number_at}
use Rattle.wm_program.specs.Execution.{take_fill, rest_of, listed}
use Rattle.wm_program.specs.Code.{Code, Routine, routine_at}
use Rattle.wm_program.specs.Runs.{entered}
use Rattle.wm_interp.specs.declared.halt.Flow.{Flow}
use Rattle.wm_interp.specs.declared.halt.Flow.TheVariants.{Next, Broke, Continued, Returned}
use Rattle.wm_interp.specs.declared.halt.Location.{Location}
use Rattle.wm_interp.specs.declared.halt.Location.TheVariants as location
use Rattle.wm_interp.specs.Held.{Held, Gets, Has, Ends, then_on, go_on, step_on, put_on}
use Rattle.wm_interp.specs.Going.{Setting, Calling, counted_on, counting_on, converted_on, computed_on, place_seen, read_on, reach_on, evaluate_on}

-- ---- conditions

abbrev pub unless_on : Bool → (Held → Gets Bool) → Held → Gets Bool
unless_on true go q = Has true q
unless_on false go q = go q

abbrev pub when_on : Bool → (Held → Gets Bool) → Held → Gets Bool
when_on true go q = go q
when_on false go q = Has false q

abbrev pub ask_on : Setting → Test → Held → Gets Bool
ask_on at Always q = Has true q
ask_on at (Either c d) q = then_on (ask_on at c q) (λ holds. unless_on holds (ask_on at d))
ask_on at (Both c d) q = then_on (ask_on at c q) (λ holds. when_on holds (ask_on at d))
ask_on at (Not c) q = then_on (ask_on at c q) (λ holds. Has (not holds))
ask_on at (Compare x mark y) q = then_on (evaluate_on at x q) (λ a q. then_on (evaluate_on at y q) (λ b. Has (compares mark a b)))
ask_on at (Truth x) q = then_on (evaluate_on at x q) (λ z. Has (not (int_eq z (pos 0))))

-- ---- statements without words of their own

-- the location that a scalar has
abbrev pub location_on : Setting → Scalar → Location
location_on at scalar.Overflow = location.Flag
location_on at (scalar.Object object) = location.Cell (root.Object object) 0
location_on at (scalar.Local local) = location.Cell (root.Local at.here.instance local) 0

abbrev pub find_on : Setting → Target → Held → Gets Location
find_on at (Variable scalar) q = Has (location_on at scalar) q
find_on at (Item array index site) q = then_on (evaluate_on at index q) (reach_on at array site)

-- the number that is always set where it is read
unfoldable pub number_on : Location → Held → ℤ
number_on location q = set_number (number_at (place_seen location) q.state)

abbrev pub fetch_on : Target → Location → Held → Gets ℤ
fetch_on (Variable scalar) location q = Has (number_on location q) q
fetch_on (Item array index site) location q = read_on site location q

unfoldable pub write_on : Location → ℤ → Held → Held
write_on location z q = put_on (place_seen location) z q

abbrev pub convert_on : Setting → Expression → Option ℕ → Held → Gets ℤ
convert_on at x narrowing q = then_on (evaluate_on at x q) (converted_on narrowing)

-- `+=` and its kin, once the right side has its number
abbrev pub updated_on : Location → ℕ → Option ℕ → ℤ → Held → Gets (Unit {0})
updated_on location arithmetic narrowing z q =
    then_on (computed_on arithmetic z q) (λ z q. then_on (converted_on narrowing z q) (λ z q. Has tt (write_on location z q)))

abbrev pub perform_on : Setting → Effect → Held → Gets (Unit {0})
perform_on at (Assign target x narrowing) q =
    then_on (find_on at target q) (λ place q. then_on (convert_on at x narrowing q) (λ z q. Has tt (write_on place z q)))
perform_on at (Update target mark x arithmetic narrowing) q =
    then_on (find_on at target q) (λ place q.
    then_on (fetch_on target place q) (λ a q.
    then_on (evaluate_on at x q) (λ b.
    updated_on place arithmetic narrowing (plain_of mark a b))))
perform_on at (Evaluate x) q = then_on (evaluate_on at x q) (λ z. Has tt)
perform_on at (Count call) q = Has tt (counted_on at (counted.Call call) q)

abbrev pub perform_all_on : Setting → List Effect → Held → Gets (Unit {0})
perform_all_on at [] q = Has tt q
perform_all_on at (effect ∷ rest) q = then_on (perform_on at effect q) (λ _. perform_all_on at rest)

-- the step part of a for is one elementary step, an absent one is none
abbrev pub perform_step_on : Setting → List Effect → Held → Gets (Unit {0})
perform_step_on at [] q = Has tt q
perform_step_on at (effect ∷ rest) q = then_on (step_on q) (λ _. perform_all_on at (effect ∷ rest))

-- ---- declarations

unfoldable pub filled_on : Setting → ℕ → Width → Held → Held
filled_on at local width q =
    write_on (location.Cell (root.Local at.here.instance local) 0) (clamp_to width (take_fill q.state.fill))
    (record q { state = record q.state { fill = rest_of q.state.fill } })

unfoldable pub cells_on : Setting → ℕ → Cells → Held → Held
cells_on at local cells q = record q { state = with_cells (root.Local at.here.instance local) cells q.state }

abbrev pub make_on : Setting → Fresh → Held → Gets (Unit {0})
make_on at (Given local x narrowing) q =
    then_on (convert_on at x narrowing q) (λ z q. Has tt (write_on (location.Cell (root.Local at.here.instance local) 0) z q))
make_on at (Filled local width) q = Has tt (filled_on at local width q)
make_on at (Blank local count) q = Has tt (cells_on at local (replicate count None) q)
make_on at (Listed local count values) q = Has tt (cells_on at local (listed count values) q)

abbrev pub make_all_on : Setting → List Fresh → Held → Gets (Unit {0})
make_all_on at [] q = Has tt q
make_all_on at (fresh ∷ rest) q = then_on (make_on at fresh q) (λ _. make_all_on at rest)

-- ---- loops: a turn answers how the loop ends, or that there is another turn

abbrev pub or_again : Option Flow → (Held → Gets Flow) → Held → Gets Flow
or_again (Some flow) go q = Has flow q
or_again None go q = go q

-- so many turns and one more, at most
unfoldable pub turns_on : ℕ → (Held → Gets (Option Flow)) → Held → Gets Flow
turns_on zero turn q = then_on (turn q) (λ ended. or_again ended (Ends ends.StepLimit))
turns_on (suc more) turn q = then_on (turn q) (λ ended. or_again ended (turns_on more turn))

abbrev pub loop_on : (Held → Gets (Option Flow)) → Held → Gets Flow
loop_on turn q = turns_on q.state.steps turn q

-- how a body ends its loop; nothing where the loop goes on
abbrev pub ended_by : Flow → Option Flow
ended_by Next = None
ended_by Broke = Some Next
ended_by Continued = None
ended_by (Returned z) = Some (Returned z)

-- behind the body of a for or a while
abbrev pub step_behind : (Held → Gets (Unit {0})) → Option Flow → Held → Gets (Option Flow)
step_behind after (Some flow) q = Has (Some flow) q
step_behind after None q = then_on (after q) (λ _. Has None)

abbrev pub turn_if : Bool → (Held → Gets Flow) → (Held → Gets (Unit {0})) → Held → Gets (Option Flow)
turn_if true body after q = then_on (body q) (λ flow. step_behind after (ended_by flow))
turn_if false body after q = Has (Some Next) q

-- the test of a loop: it is an elementary step, and may be counted
abbrev pub test_on : Setting → Bool → Test → Held → Gets Bool
test_on at is_counted test q = then_on (step_on q) (λ _ q. ask_on at test (counting_on at is_counted word.While q))

-- a turn of a for or a while
unfoldable pub turn_on : Setting → Bool → Test → (Held → Gets Flow) → (Held → Gets (Unit {0})) → Held → Gets (Option Flow)
turn_on at is_counted test body after q = then_on (test_on at is_counted test q) (λ holds. turn_if holds body after)

abbrev pub again_if : Bool → Option Flow
again_if true = None
again_if false = Some Next

abbrev pub tail_on : Setting → Bool → Test → Held → Gets (Option Flow)
tail_on at is_counted test q = then_on (test_on at is_counted test q) (λ holds. Has (again_if holds))

-- behind the body of a do
abbrev pub tail_behind : (Held → Gets (Option Flow)) → Option Flow → Held → Gets (Option Flow)
tail_behind tail (Some flow) q = Has (Some flow) q
tail_behind tail None q = tail q

unfoldable pub round_on : Setting → Bool → Test → (Held → Gets Flow) → Held → Gets (Option Flow)
round_on at is_counted test body q = then_on (body q) (λ flow. tail_behind (tail_on at is_counted test) (ended_by flow))

-- ---- statements

abbrev pub is_next : Flow → Bool
is_next Next = true
is_next Broke = false
is_next Continued = false
is_next (Returned z) = false

abbrev pub branch_on : Bool → (Held → Gets Flow) → (Held → Gets Flow) → Held → Gets Flow
branch_on true first other q = first q
branch_on false first other q = other q

abbrev pub next_on : Gets (Unit {0}) → Gets Flow
next_on got = then_on got (λ _. Has Next)

abbrev pub exec_on : Setting → Tree → Held → Gets Flow
exec_on at Skip q = Has Next q
exec_on at (Seq first rest) q = go_on (exec_on at first q) (exec_on at rest)
exec_on at (Block tree) q = then_on (step_on q) (λ _. exec_on at tree)
exec_on at Empty q = next_on (step_on q)
exec_on at (Declare fresh) q = then_on (step_on q) (λ _ q. next_on (make_all_on at fresh q))
exec_on at (Act effect) q = then_on (step_on q) (λ _ q. next_on (perform_on at effect q))
exec_on at (If is_counted test first) q =
    then_on (step_on q) (λ _ q. then_on (ask_on at test (counting_on at is_counted word.If q)) (λ holds. branch_on holds (exec_on at first) (Has Next)))
exec_on at (IfElse is_counted test first is_else_counted other) q =
    then_on (step_on q) (λ _ q.
    then_on (ask_on at test (counting_on at is_counted word.If q)) (λ holds.
    branch_on holds (exec_on at first) (λ q. exec_on at other (counting_on at is_else_counted word.Else q))))
exec_on at (For is_counted loop begin test step body) q =
    then_on (step_on q) (λ _ q.
    then_on (perform_all_on at begin (counting_on at is_counted word.For q)) (λ _.
    loop_on (turn_on at false test (exec_on at body) (perform_step_on at step))))
exec_on at (While is_counted loop test body) q =
    then_on (step_on q) (λ _. loop_on (turn_on at is_counted test (exec_on at body) (perform_step_on at [])))
exec_on at (Do is_counted is_tail_counted loop body test) q =
    then_on (step_on q) (λ _ q. loop_on (round_on at is_tail_counted test (exec_on at body)) (counting_on at is_counted word.Do q))
exec_on at (Break is_counted) q = then_on (step_on q) (λ _ q. Has Broke (counting_on at is_counted word.Break q))
exec_on at (Continue is_counted) q = then_on (step_on q) (λ _ q. Has Continued (counting_on at is_counted word.Continue q))
exec_on at (Return x narrowing) q = then_on (step_on q) (λ _ q. then_on (convert_on at x narrowing q) (λ z. Has (Returned z)))
exec_on at Leave q = then_on (step_on q) (λ _. Has (Returned (pos 0)))

-- ---- calls

abbrev pub back_on : Flow → ℤ
back_on Next = pos 0
back_on Broke = pos 0
back_on Continued = pos 0
back_on (Returned z) = z

unfoldable pub entered_on : Code → ℕ → Here → List ℤ → Held → Held
entered_on code function here args q = record q { state = entered here (routine_at code function) args q.state }

unfoldable pub call_on : Code → (Counted → Option ℕ) → ℕ → Calling
call_on code weights zero function here args q = Ends ends.StepLimit q
call_on code weights (suc levels) function here args q =
    then_on (exec_on (record { code = code; weights = weights; calls = call_on code weights levels; here = here }) (routine_at code function).body
    (entered_on code function here args q)) (λ flow. Has (back_on flow))
