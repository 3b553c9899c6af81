-- What the machine does, part by part of a declared tree.
use Rattle.std.specs.Prelude.{ℕ, Bool, true, false, not, List, [], ◌∷◌, map, ℤ, pos, Option, Some, None}
use Rattle.std.specs.Borrow.{Bor}
use Rattle.wm_program.specs.declared.tree.Converted.{Converted}
use Rattle.wm_program.specs.declared.tree.View.TheVariants as view
use Rattle.wm_program.specs.declared.tree.Passed.{Passed}
use Rattle.wm_program.specs.declared.tree.Passed.TheVariants as passed
use Rattle.wm_program.specs.declared.tree.Expr.{Expr}
use Rattle.wm_program.specs.declared.tree.Condition.{Condition}
use Rattle.wm_program.specs.Tree.{Test, Always}
use Rattle.wm_program.specs.Trees.{expression_of, test_of, tree_of, effect_of}
use Rattle.wm_interp.specs.declared.halt.Flow.{Flow}
use Rattle.wm_interp.specs.declared.run.Loop.{Loop}
use Rattle.wm_interp.specs.declared.run.Loop.TheVariants.{Tested, Do}
use Rattle.wm_interp.specs.Held.{Held, Gets, Has, then_on}
use Rattle.wm_interp.specs.Going.{Setting, converted_on, evaluate_on, view_on, offset_on}
use Rattle.wm_interp.specs.Doing.{convert_on, ask_on, turn_on, round_on, exec_on, perform_step_on}

-- the number of an argument of an operator, or 0 where there is none
abbrev pub operand_on : Setting → Option (Converted Expr) → Held → Gets ℤ
operand_on at None q = Has (pos 0) q
operand_on at (Some x) q = convert_on at (expression_of x.value) x.narrowing q

-- the number of an argument of a function
abbrev pub pass_on : Setting → Passed Expr → Held → Gets ℤ
pass_on at (passed.Value x) q = convert_on at (expression_of x.value) x.narrowing q
pass_on at (passed.View (view.Whole array)) q = Has (offset_on at array q) q
pass_on at (passed.View (view.From array index site)) q = then_on (evaluate_on at (expression_of index) q) (view_on at array site)

-- conditions, up to the first of which it is so
abbrev pub stops_on : Bool → Bool → (Held → Gets Bool) → Held → Gets Bool
stops_on true true go q = Has true q
stops_on true false go q = go q
stops_on false true go q = go q
stops_on false false go q = Has false q

abbrev pub series_on : Setting → Bool → List Test → Held → Gets Bool
series_on at stop [] q = Has (not stop) q
series_on at stop (c ∷ rest) q = then_on (ask_on at c q) (λ holds. stops_on stop holds (series_on at stop rest))

-- a condition that may be absent
abbrev pub asked : Option (Bor Condition) → Test
asked None = Always
asked (Some c) = test_of c.now

-- a turn of a loop
abbrev pub loop_turn : Setting → Loop → Held → Gets (Option Flow)
loop_turn at (Tested is_counted condition step body) =
    turn_on at is_counted (asked condition) (exec_on at (tree_of body.now)) (perform_step_on at (map effect_of step.now))
loop_turn at (Do is_counted condition body) = round_on at is_counted (test_of condition.now) (exec_on at (tree_of body.now))
