-- The strokes of statements begin the heads of the loops in them, and have the calls in them as parts.
use Rattle.std.proofs.Common.{◌≡◌, ℕ, suc, ◌+◌, Bool, List, [], ◌∷◌, ◌++◌, Option, refl, ◌∙◌, arith}
use Rattle.wm_ops.specs.declared.words.ControlWord.{ControlWord}
use Rattle.wm_program.specs.Tree.{Expression, Tree, Skip, Seq, Block, Empty, Declare, Act, If, IfElse, For, While, Do, Break, Continue, Return, Leave}
use Rattle.wm_program.specs.WellFormed.{calls_in, calls_in_test, calls_in_effects, calls_of}
use Rattle.wm_flow.specs.declared.graph.Sum.{Sum}
use Rattle.wm_flow.specs.declared.kept.Kept.{Kept}
use Rattle.wm_flow.specs.declared.scene.Scene.{Scene}
use Rattle.wm_flow.specs.Places.{Plan, bases_of, first_sum, head_of}
use Rattle.wm_flow.specs.Strokes.{point}
use Rattle.wm_flow.specs.Statements.{variables_of, clearing, clear_strokes, word_strokes, inside, sums_of, ties_from, ties_strokes, enter_strokes, turn_strokes, jump, stands, placed_strokes, Around, return_strokes, jump_strokes, tree_strokes}
use Rattle.wm_heads.specs.Bodies.{loops_of}
use Rattle.wm_heads.specs.Tally.{same, begins, called, own}
use Rattle.wm_heads.proofs.Counted.{join2, join3, join4, join5, quiet_none, quiet_if, quiet_step, quiet_point, called_join, own_join}
use Rattle.wm_heads.proofs.Values.{quiet_temporary, quiet_narrow, strokes_count}
use Rattle.wm_heads.proofs.Effects.{effect_count, effects_count, declared_count}
use Rattle.wm_heads.proofs.Tests.{test_count}

module _ (n : ℕ) (part : ℕ → ℕ) (plan : Plan) (scene : Scene) where
  pub quiet_word : (is_counted : Bool) (word : ControlWord) (node : ℕ) → begins n part (word_strokes plan scene is_counted word node) ≡ 0
  unfolding word_strokes
  quiet_word is_counted word node = quiet_if n part is_counted _ _ (quiet_step n part plan scene node _ _ _) (quiet_none n part)

  quiet_clearing : (variables : List ℕ) (node temporaries : ℕ) → begins n part (clearing plan scene variables node temporaries) ≡ 0
  quiet_clearing [] node temporaries = quiet_none n part
  quiet_clearing (v ∷ rest) node temporaries = quiet_step n part plan scene node _ _ _

  pub quiet_clear : (locals : List ℕ) (node temporaries : ℕ) → begins n part (clear_strokes plan scene locals node temporaries) ≡ 0
  unfolding clear_strokes
  quiet_clear locals node temporaries = quiet_clearing (variables_of plan scene locals) node temporaries

  quiet_ties_from : (loop v : ℕ) (sums : List Sum) (node : ℕ) → begins n part (ties_from plan scene loop v sums node) ≡ 0
  quiet_ties_from loop v [] node = quiet_none n part
  quiet_ties_from loop v (sum ∷ rest) node =
      join2 n part _ _ 0 0 (quiet_step n part plan scene node _ _ _) (quiet_ties_from loop (suc v) rest (suc node))

  pub quiet_ties : (loop node : ℕ) → begins n part (ties_strokes plan scene loop node) ≡ 0
  unfolding ties_strokes
  quiet_ties loop node = quiet_ties_from loop (first_sum (bases_of plan scene)) (sums_of plan scene) node

  pub quiet_jump : (node target : ℕ) → begins n part (jump plan scene node target) ≡ 0
  unfolding begins point
  quiet_jump node target = refl

  pub quiet_placed : (kept : Kept) (node : ℕ) → begins n part (placed_strokes plan scene kept node) ≡ 0
  quiet_placed kept node =
      quiet_if n part (stands (bases_of plan scene) kept) _ _ (quiet_none n part) (quiet_temporary n part plan scene node 0 kept)

  pub enter_count : (loop node : ℕ) → begins n part (enter_strokes plan scene loop node) ≡ same (head_of plan.tables scene.instance loop) n
  unfolding enter_strokes begins point
  enter_count loop node = omega arith

  pub quiet_turn : (loop node head : ℕ) → begins n part (turn_strokes plan scene loop node head) ≡ 0
  unfolding turn_strokes begins point
  quiet_turn loop node head = refl

  out_count : (is_counted : Bool) (word : ControlWord) (locals : List ℕ) (node target : ℕ) → begins n part (jump_strokes plan scene is_counted word locals node target) ≡ 0
  out_count is_counted word locals node target =
      join3 n part _ _ _ 0 0 0 (quiet_word is_counted word node) (quiet_clear locals _ 0) (quiet_jump _ target)

  return_count : (around : Around) (x : Expression) (narrowing : Option ℕ) (node : ℕ) → begins n part (return_strokes plan scene around x narrowing node) ≡ called part scene.instance (calls_in x)
  unfolding return_strokes
  return_count around x narrowing node =
      join5 n part _ _ _ _ _ _ 0 0 0 0 (strokes_count n part plan scene x node 0) (quiet_narrow n part plan scene narrowing _ _ _) (quiet_placed _ _) (quiet_clear _ _ 1) (quiet_jump _ around.exit)
      ∙ omega arith

module _ (n : ℕ) (part : ℕ → ℕ) (plan : Plan) where
  abbrev all_of : Tree → Scene → ℕ
  all_of tree scene = own n plan.tables scene.instance (loops_of tree) + called part scene.instance (calls_of tree)

  pub tree_count : (tree : Tree) (scene : Scene) (around : Around) (node : ℕ) → begins n part (tree_strokes plan tree scene around node) ≡ own n plan.tables scene.instance (loops_of tree) + called part scene.instance (calls_of tree)
  unfolding tree_strokes
  tree_count Skip scene around node = quiet_none n part
  tree_count (Seq first rest) scene around node =
      join2 n part _ _ _ _ (tree_count first scene around node) (tree_count rest scene around _)
      ∙ omega (arith, own_join n plan.tables scene.instance (loops_of first) (loops_of rest), called_join part scene.instance (calls_of first) (calls_of rest))
  tree_count (Block tree) scene around node =
      join2 n part _ _ _ 0 (tree_count tree scene _ node) (quiet_clear n part plan scene _ _ 0) ∙ omega arith
  tree_count Empty scene around node = quiet_none n part
  tree_count (Declare fresh) scene around node = declared_count n part plan scene fresh node ∙ omega arith
  tree_count (Act effect) scene around node = effect_count n part plan scene effect node ∙ omega arith
  tree_count (If is_counted test first) scene around node =
      join4 n part _ _ _ _ 0 _ _ 0 (quiet_word n part plan scene is_counted _ node) (test_count n part plan scene test _ _ _)
      (quiet_point n part plan scene 0 _ ∙ tree_count first scene around _) (quiet_step n part plan scene _ _ _ _)
      ∙ omega (arith, called_join part scene.instance (calls_in_test test) (calls_of first))
  tree_count (IfElse is_counted test first is_else_counted otherwise) scene around node =
      let instance = scene.instance in
      join4 n part _ _ _ _ _ _ _ 0
      (join4 n part _ _ _ _ 0 _ _ 0 (quiet_word n part plan scene is_counted _ node) (test_count n part plan scene test _ _ _)
      (quiet_point n part plan scene 0 _ ∙ tree_count first scene around _) (quiet_jump n part plan scene _ _))
      (quiet_word n part plan scene is_else_counted _ _) (tree_count otherwise scene around _) (quiet_step n part plan scene _ _ _ _)
      ∙ omega (arith, called_join part instance (calls_in_test test ++ calls_of first) (calls_of otherwise), called_join part instance (calls_in_test test) (calls_of first), own_join n plan.tables instance (loops_of first) (loops_of otherwise))
  tree_count (For is_counted loop begin test after body) scene around node =
      let instance = scene.instance in
      let within = inside scene loop in
      join5 n part _ _ _ _ _ _ _ 0 _ 0
      (join2 n part _ _ _ _
      (join5 n part _ _ _ _ _ 0 _ _ 0 _ (quiet_word n part plan scene is_counted _ node) (effects_count n part plan scene begin _)
      (enter_count n part plan scene loop _) (quiet_ties n part plan within loop _) (test_count n part plan within test _ _ _))
      (quiet_point n part plan within 0 _ ∙ quiet_ties n part plan within loop _))
      (tree_count body within _ _) (quiet_step n part plan within _ _ _ _) (effects_count n part plan within after _) (quiet_turn n part plan scene loop _ _)
      ∙ omega (arith, called_join part instance (calls_in_effects begin ++ calls_in_test test ++ calls_in_effects after) (calls_of body), called_join part instance (calls_in_effects begin ++ calls_in_test test) (calls_in_effects after), called_join part instance (calls_in_effects begin) (calls_in_test test))
  tree_count (While is_counted loop test body) scene around node =
      let within = inside scene loop in
      join5 n part _ _ _ _ _ _ _ _ 0 0
      (join4 n part _ _ _ _ _ 0 0 _ (enter_count n part plan scene loop node) (quiet_ties n part plan within loop _) (quiet_word n part plan within is_counted _ _) (test_count n part plan within test _ _ _))
      (quiet_point n part plan within 0 _ ∙ quiet_ties n part plan within loop _)
      (tree_count body within _ _) (quiet_step n part plan within _ _ _ _) (quiet_turn n part plan scene loop _ _)
      ∙ omega (arith, called_join part scene.instance (calls_in_test test) (calls_of body))
  tree_count (Do is_counted is_tail_counted loop body test) scene around node =
      let within = inside scene loop in
      join4 n part _ _ _ _ _ 0 _ 0
      (join5 n part _ _ _ _ _ 0 _ 0 _ 0 (quiet_word n part plan scene is_counted _ node) (enter_count n part plan scene loop _) (quiet_ties n part plan within loop _) (tree_count body within _ _) (quiet_step n part plan within _ _ _ _))
      (quiet_word n part plan within is_tail_counted _ _) (test_count n part plan within test _ _ _)
      (quiet_point n part plan within 0 _ ∙ quiet_turn n part plan scene loop _ _)
      ∙ omega (arith, called_join part scene.instance (calls_of body) (calls_in_test test))
  tree_count (Break is_counted) scene around node = out_count n part plan scene is_counted _ around.near node around.stop
  tree_count (Continue is_counted) scene around node = out_count n part plan scene is_counted _ around.near node around.again
  tree_count (Return x narrowing) scene around node = return_count n part plan scene around x narrowing node ∙ omega arith
  tree_count Leave scene around node =
      join2 n part _ _ 0 0 (quiet_clear n part plan scene _ node 0) (quiet_jump n part plan scene _ around.exit)
