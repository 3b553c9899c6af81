-- The strokes of conditions begin no head; they have the calls in them as parts.
use Rattle.std.proofs.Common.{◌≡◌, ℕ, ◌+◌, Bool, true, false, [], ◌∷◌, Option, Some, None, refl, ◌∙◌, arith}
use Rattle.std.specs.Prelude.{if◌then◌else◌, nat_lt}
use Rattle.wm_ops.specs.declared.operators.Op.TheVariants as ops
use Rattle.wm_program.specs.declared.tree.Comparison.{Comparison}
use Rattle.wm_program.specs.declared.tree.Comparison.TheVariants as compare
use Rattle.wm_program.specs.Tree.{Expression, Test, Constant, Named, Element, Operator, Invoke, Plain, Negate, Plus, Cast, Always, Either, Both, Not, Compare, Truth}
use Rattle.wm_program.specs.WellFormed.{calls_in, calls_in_arguments, calls_in_test}
use Rattle.wm_flow.specs.declared.kept.Kept.{Kept}
use Rattle.wm_flow.specs.declared.scene.Scene.{Scene}
use Rattle.wm_flow.specs.declared.scene.Sides.{Sides}
use Rattle.wm_flow.specs.Plain.{Doing}
use Rattle.wm_flow.specs.Places.{Plan}
use Rattle.wm_flow.specs.Strokes.{Line, nothing}
use Rattle.wm_flow.specs.Expressions.{no_values}
use Rattle.wm_flow.specs.Tests.{fork, goes, side_strokes, sides_strokes, is_apart, Compared, Plainly, Number, Applied, Subtraction, subtraction, is_nought, from_right, applied, compared, compared_number, evaluation_strokes, compared_strokes, sides_of, mark_of, test_strokes}
use Rattle.wm_heads.specs.Tally.{begins, called}
use Rattle.wm_heads.proofs.Counted.{join2, join3, quiet_none, quiet_if, quiet_point, called_join}
use Rattle.wm_heads.proofs.Values.{quiet_temporary, quiet_yields, quiet_operate, strokes_count, all_count}

-- ---- what is compared has the calls of both sides

module _ (part : ℕ → ℕ) (instance : ℕ) where
  abbrev calls : Expression → ℕ
  calls x = called part instance (calls_in x)

  abbrev pub compared_calls : Compared → ℕ
  compared_calls (Plainly x mark y) = calls x + calls y
  compared_calls (Number x) = calls x
  compared_calls (Applied op args site mark) = called part instance (calls_in_arguments args)

  abbrev SubtractionCounts : ℕ → Option Subtraction → Type 0
  SubtractionCounts count None = Unit {0}
  SubtractionCounts count (Some it) = called part instance (calls_in_arguments it.arguments) ≡ count

  subtraction_counts : (x : Expression) → SubtractionCounts (calls x) (subtraction x)
  subtraction_counts (Operator ops.Sub args site) = refl
  subtraction_counts (Operator ops.LSub args site) = refl
  subtraction_counts _ = tt

  nought_calls : (y : Expression) → is_nought y ≡ true → calls y ≡ 0
  nought_calls (Constant z) e = refl
  nought_calls (Named scalar) e = cc
  nought_calls (Element array index site) e = cc
  nought_calls (Operator op args site) e = cc
  nought_calls (Invoke function offset args) e = cc
  nought_calls (Plain mark x y site) e = cc
  nought_calls (Negate x site) e = cc
  nought_calls (Plus x) e = cc
  nought_calls (Cast width x) e = cc

  applied_calls : (it : Option Subtraction) (mark : Comparison) (otherwise : Compared) (count : ℕ) → SubtractionCounts count it → compared_calls otherwise ≡ count → compared_calls (applied it mark otherwise) ≡ count
  applied_calls None mark otherwise count h i = i
  applied_calls (Some it) mark otherwise count h i = h

  chosen_calls : (b : Bool) (one other : Compared) (count : ℕ) → (b ≡ true → compared_calls one ≡ count) → compared_calls other ≡ count → compared_calls (if b then one else other) ≡ count
  chosen_calls true one other count h i = h refl
  chosen_calls false one other count h i = i

  pub compare_calls : (x : Expression) (mark : Comparison) (y : Expression) → compared_calls (compared x mark y) ≡ calls x + calls y
  unfolding compared
  compare_calls x mark y =
      chosen_calls (is_nought y) _ _ (calls x + calls y)
      (λ e. applied_calls (subtraction x) mark (Plainly x mark y) (calls x) (subtraction_counts x) (omega (arith, nought_calls y e)) ∙ omega (arith, nought_calls y e))
      (chosen_calls (is_nought x) _ _ (calls x + calls y)
      (λ e. applied_calls (subtraction y) (from_right mark) (Plainly x mark y) (calls y) (subtraction_counts y) (omega (arith, nought_calls x e)) ∙ omega (arith, nought_calls x e))
      refl)

  pub number_calls : (x : Expression) → compared_calls (compared_number x) ≡ calls x
  unfolding compared_number
  number_calls x = applied_calls (subtraction x) compare.NotEqual (Number x) (calls x) (subtraction_counts x) refl

module _ (n : ℕ) (part : ℕ → ℕ) (plan : Plan) (scene : Scene) where
  quiet_fork : (node hit miss : ℕ) (holds fails : Doing) → begins n part (fork node hit holds miss fails) ≡ 0
  unfolding fork begins
  quiet_fork node hit miss holds fails = quiet_if n part (nat_lt hit miss) _ _ refl refl

  quiet_side : (apart : Bool) (kept : Kept) (node temporaries : ℕ) → begins n part (side_strokes plan scene apart kept node temporaries) ≡ 0
  quiet_side apart kept node temporaries =
      quiet_if n part (goes apart kept) _ _ (quiet_temporary n part plan scene node temporaries kept) (quiet_none n part)

  quiet_sides : (mark : Comparison) (sides : Sides) (node hit miss : ℕ) → begins n part (sides_strokes plan scene mark sides node hit miss) ≡ 0
  unfolding sides_strokes
  quiet_sides mark sides node hit miss =
      let apart = is_apart sides in
      join3 n part _ _ _ 0 0 0 (quiet_side apart sides.left node _) (quiet_side apart sides.right _ _) (quiet_fork _ hit miss _ _)

  evaluation_count : (it : Compared) (node : ℕ) → begins n part (evaluation_strokes plan scene it node) ≡ compared_calls part scene.instance it
  evaluation_count (Plainly x mark y) node =
      join3 n part _ _ _ _ 0 _ (strokes_count n part plan scene x node 0) (quiet_yields n part plan scene _ _ _ _) (strokes_count n part plan scene y _ _) ∙ omega arith
  evaluation_count (Number x) node = strokes_count n part plan scene x node 0
  evaluation_count (Applied op args site mark) node =
      join2 n part _ _ _ 0 (all_count n part plan scene args node (no_values plan scene 0)) (quiet_operate n part plan scene op site _ _ _ _) ∙ omega arith

  compared_count : (it : Compared) (node hit miss : ℕ) → begins n part (compared_strokes plan scene it node hit miss) ≡ compared_calls part scene.instance it
  compared_count it node hit miss =
      join2 n part _ _ _ 0 (evaluation_count it node) (quiet_sides (mark_of plan scene it) (sides_of plan scene it) _ hit miss) ∙ omega arith

  quiet_line : (source target : ℕ) (doing : Doing) (site : Option ℕ) → begins n part (Line source target doing site ∷ []) ≡ 0
  unfolding begins
  quiet_line source target doing site = refl

  pub test_count : (test : Test) (node hit miss : ℕ) → begins n part (test_strokes plan scene test node hit miss) ≡ called part scene.instance (calls_in_test test)
  unfolding test_strokes
  test_count Always node hit miss = quiet_line node hit nothing None
  test_count (Either c d) node hit miss =
      join2 n part _ _ _ _ (test_count c node hit _) (quiet_point n part plan scene 0 _ ∙ test_count d _ hit miss)
      ∙ omega (arith, called_join part scene.instance (calls_in_test c) (calls_in_test d))
  test_count (Both c d) node hit miss =
      join2 n part _ _ _ _ (test_count c node _ miss) (quiet_point n part plan scene 0 _ ∙ test_count d _ hit miss)
      ∙ omega (arith, called_join part scene.instance (calls_in_test c) (calls_in_test d))
  test_count (Not c) node hit miss = test_count c node miss hit
  test_count (Compare x mark y) node hit miss =
      compared_count (compared x mark y) node hit miss
      ∙ omega (arith, compare_calls part scene.instance x mark y, called_join part scene.instance (calls_in x) (calls_in y))
  test_count (Truth x) node hit miss = compared_count (compared_number x) node hit miss ∙ number_calls part scene.instance x
