-- The points of statements fit their contexts, where those of their loops do.
use Rattle.std.proofs.Common.{ℕ, suc, ◌+◌, Bool, List, [], ◌∷◌, Option, Some}
use Rattle.wm_ops.specs.declared.words.ControlWord.{ControlWord}
use Rattle.wm_program.specs.Code.{routine_at, function_of}
use Rattle.wm_program.specs.Tree.{Expression, Tree, Skip, Seq, Block, Empty, Declare, Act, If, IfElse, For, While, Do, Break, Continue, Return, Leave}
use Rattle.wm_flow.specs.declared.graph.Sum.{Sum}
use Rattle.wm_flow.specs.declared.kept.Kept.{Kept}
use Rattle.wm_flow.specs.declared.scene.Scene.{Scene}
use Rattle.wm_flow.specs.Plain.{Doing}
use Rattle.wm_flow.specs.Places.{Plan, bases_of, first_sum}
use Rattle.wm_flow.specs.Strokes.{point, step}
use Rattle.wm_flow.specs.Calls.{scene_of}
use Rattle.wm_flow.specs.Statements.{variables_of, clearing, clear_strokes, word_strokes, inside, sums_of, ties_from, ties_strokes, enter_strokes, turn_strokes, jump, stands, placed_strokes, Around, return_strokes, jump_strokes, tree_strokes}
use Rattle.wm_flow.specs.Parts.{storing_from, stored_parameters, part_strokes}
use Rattle.wm_graph_laws.specs.Invoked.{Invokes, TreeInvokes}
use Rattle.wm_shaped.specs.Fitting.{AreFitting}
use Rattle.wm_shaped.specs.Nested.{Nested}
use Rattle.wm_shaped.proofs.Pieces.{Seated, join2, join3, join4, join5, none_fit, if_fit, step_fits, point_fits}
use Rattle.wm_shaped.proofs.Values.{temporary_fits, narrow_fits, strokes_fit}
use Rattle.wm_shaped.proofs.Effects.{effect_fits, effects_fit, declared_fit}
use Rattle.wm_shaped.proofs.Tests.{test_fits}

module _ (owner : ℕ → Option ℕ) (counted : ℕ → ℕ) (May : ℕ → Type 0) (plan : Plan) (scene : Scene) (seat : Seated owner counted May plan scene) where
  pub one : (node : ℕ) (doing : Doing) (site : Option ℕ) (temporaries : ℕ) → AreFitting owner counted May (step plan scene node doing site temporaries)
  one = step_fits owner counted May plan scene seat

  pub word_fits : (is_counted : Bool) (word : ControlWord) (node : ℕ) → AreFitting owner counted May (word_strokes plan scene is_counted word node)
  unfolding word_strokes
  word_fits is_counted word node = if_fit owner counted May is_counted _ _ (one node _ _ _) (none_fit owner counted May)

  clearing_fits : (variables : List ℕ) (node temporaries : ℕ) → AreFitting owner counted May (clearing plan scene variables node temporaries)
  clearing_fits [] node temporaries = none_fit owner counted May
  clearing_fits (v ∷ rest) node temporaries = one node _ _ _

  pub clear_fits : (locals : List ℕ) (node temporaries : ℕ) → AreFitting owner counted May (clear_strokes plan scene locals node temporaries)
  unfolding clear_strokes
  clear_fits locals node temporaries = clearing_fits (variables_of plan scene locals) node temporaries

  ties_from_fit : (loop v : ℕ) (sums : List Sum) (node : ℕ) → AreFitting owner counted May (ties_from plan scene loop v sums node)
  ties_from_fit loop v [] node = none_fit owner counted May
  ties_from_fit loop v (sum ∷ rest) node = join2 owner counted May _ _ (one node _ _ _) (ties_from_fit loop (suc v) rest (suc node))

  pub ties_fit : (loop node : ℕ) → AreFitting owner counted May (ties_strokes plan scene loop node)
  unfolding ties_strokes
  ties_fit loop node = ties_from_fit loop (first_sum (bases_of plan scene)) (sums_of plan scene) node

  pub jump_fits : (node target : ℕ) → AreFitting owner counted May (jump plan scene node target)
  unfolding AreFitting point
  jump_fits node target = (seat.owned, seat.sized, tt)

  pub placed_fits : (kept : Kept) (node : ℕ) → AreFitting owner counted May (placed_strokes plan scene kept node)
  placed_fits kept node =
      if_fit owner counted May (stands (bases_of plan scene) kept) _ _ (none_fit owner counted May) (temporary_fits owner counted May plan scene seat node 0 kept)

  pub enter_fits : (loop node : ℕ) → Seated owner counted May plan (inside scene loop) → AreFitting owner counted May (enter_strokes plan scene loop node)
  unfolding enter_strokes AreFitting point
  enter_fits loop node within = (within.owned, within.sized, tt)

  pub turn_fits : (loop node head : ℕ) → AreFitting owner counted May (turn_strokes plan scene loop node head)
  unfolding turn_strokes AreFitting point
  turn_fits loop node head = (seat.owned, seat.sized, tt)

  pub out_fits : (is_counted : Bool) (word : ControlWord) (locals : List ℕ) (node target : ℕ) → AreFitting owner counted May (jump_strokes plan scene is_counted word locals node target)
  out_fits is_counted word locals node target =
      join3 owner counted May _ _ _ (word_fits is_counted word node) (clear_fits locals _ 0) (jump_fits _ target)

  pub return_fits : (around : Around) (x : Expression) (narrowing : Option ℕ) (node : ℕ) → Invokes (λ offset. May (scene.instance + offset)) x → AreFitting owner counted May (return_strokes plan scene around x narrowing node)
  unfolding return_strokes
  return_fits around x narrowing node i =
      join5 owner counted May _ _ _ _ _ (strokes_fit owner counted May plan scene seat x node 0 i) (narrow_fits owner counted May plan scene seat narrowing _ _ _) (placed_fits _ _) (clear_fits _ _ 1) (jump_fits _ around.exit)

module _ (owner : ℕ → Option ℕ) (counted : ℕ → ℕ) (May : ℕ → Type 0) (plan : Plan) where
  -- the points inside a loop of an instance fit
  abbrev pub IsSeat : (instance function : ℕ) → (depth loop : ℕ) → Type 0
  IsSeat instance function depth loop =
      Seated owner counted May plan (record { instance = instance; function = function; depth = depth; inner = Some loop })

  pub tree_fits : (tree : Tree) (scene : Scene) (around : Around) (node : ℕ) → Seated owner counted May plan scene → TreeInvokes (λ offset. May (scene.instance + offset)) tree → Nested (IsSeat scene.instance scene.function) scene.depth tree → AreFitting owner counted May (tree_strokes plan tree scene around node)
  unfolding tree_strokes
  tree_fits Skip scene around node seat i s = none_fit owner counted May
  tree_fits (Seq first rest) scene around node seat i s =
      join2 owner counted May _ _ (tree_fits first scene around node seat i.0 s.0) (tree_fits rest scene around _ seat i.1 s.1)
  tree_fits (Block tree) scene around node seat i s =
      join2 owner counted May _ _ (tree_fits tree scene _ node seat i s) (clear_fits owner counted May plan scene seat _ _ 0)
  tree_fits Empty scene around node seat i s = none_fit owner counted May
  tree_fits (Declare fresh) scene around node seat i s = declared_fit owner counted May plan scene seat fresh node i
  tree_fits (Act effect) scene around node seat i s = effect_fits owner counted May plan scene seat effect node i
  tree_fits (If is_counted test first) scene around node seat i s =
      join4 owner counted May _ _ _ _ (word_fits owner counted May plan scene seat is_counted _ node) (test_fits owner counted May plan scene seat test _ _ _ i.0)
      (point_fits owner counted May plan scene seat 0 _ (tree_fits first scene around _ seat i.1 s)) (one owner counted May plan scene seat _ _ _ _)
  tree_fits (IfElse is_counted test first is_else_counted otherwise) scene around node seat i s =
      join4 owner counted May _ _ _ _
      (join4 owner counted May _ _ _ _ (word_fits owner counted May plan scene seat is_counted _ node) (test_fits owner counted May plan scene seat test _ _ _ i.0)
      (point_fits owner counted May plan scene seat 0 _ (tree_fits first scene around _ seat i.1 s.0)) (jump_fits owner counted May plan scene seat _ _))
      (word_fits owner counted May plan scene seat is_else_counted _ _) (tree_fits otherwise scene around _ seat i.2 s.1) (one owner counted May plan scene seat _ _ _ _)
  tree_fits (For is_counted loop begin test after body) scene around node seat i s =
      let within = inside scene loop in
      let inner : Seated owner counted May plan within = s.0 in
      join5 owner counted May _ _ _ _ _
      (join2 owner counted May _ _
      (join5 owner counted May _ _ _ _ _ (word_fits owner counted May plan scene seat is_counted _ node) (effects_fit owner counted May plan scene seat begin _ i.0)
      (enter_fits owner counted May plan scene seat loop _ inner) (ties_fit owner counted May plan within inner loop _) (test_fits owner counted May plan within inner test _ _ _ i.1))
      (point_fits owner counted May plan within inner 0 _ (ties_fit owner counted May plan within inner loop _)))
      (tree_fits body within _ _ inner i.3 s.1) (one owner counted May plan within inner _ _ _ _) (effects_fit owner counted May plan within inner after _ i.2) (turn_fits owner counted May plan scene seat loop _ _)
  tree_fits (While is_counted loop test body) scene around node seat i s =
      let within = inside scene loop in
      let inner : Seated owner counted May plan within = s.0 in
      join5 owner counted May _ _ _ _ _
      (join4 owner counted May _ _ _ _ (enter_fits owner counted May plan scene seat loop node inner) (ties_fit owner counted May plan within inner loop _) (word_fits owner counted May plan within inner is_counted _ _) (test_fits owner counted May plan within inner test _ _ _ i.0))
      (point_fits owner counted May plan within inner 0 _ (ties_fit owner counted May plan within inner loop _))
      (tree_fits body within _ _ inner i.1 s.1) (one owner counted May plan within inner _ _ _ _) (turn_fits owner counted May plan scene seat loop _ _)
  tree_fits (Do is_counted is_tail_counted loop body test) scene around node seat i s =
      let within = inside scene loop in
      let inner : Seated owner counted May plan within = s.0 in
      join4 owner counted May _ _ _ _
      (join5 owner counted May _ _ _ _ _ (word_fits owner counted May plan scene seat is_counted _ node) (enter_fits owner counted May plan scene seat loop _ inner) (ties_fit owner counted May plan within inner loop _) (tree_fits body within _ _ inner i.0 s.1) (one owner counted May plan within inner _ _ _ _))
      (word_fits owner counted May plan within inner is_tail_counted _ _) (test_fits owner counted May plan within inner test _ _ _ i.1)
      (point_fits owner counted May plan within inner 0 _ (turn_fits owner counted May plan scene seat loop _ _))
  tree_fits (Break is_counted) scene around node seat i s = out_fits owner counted May plan scene seat is_counted _ around.near node around.stop
  tree_fits (Continue is_counted) scene around node seat i s = out_fits owner counted May plan scene seat is_counted _ around.near node around.again
  tree_fits (Return x narrowing) scene around node seat i s = return_fits owner counted May plan scene seat around x narrowing node i
  tree_fits Leave scene around node seat i s =
      join2 owner counted May _ _ (clear_fits owner counted May plan scene seat _ node 0) (jump_fits owner counted May plan scene seat _ around.exit)

  storing_fits : (scene : Scene) → Seated owner counted May plan scene → (arrays : List ℕ) (node : ℕ) → AreFitting owner counted May (storing_from plan scene arrays node)
  storing_fits scene seat [] node = none_fit owner counted May
  storing_fits scene seat (array ∷ rest) node =
      join2 owner counted May _ _ (one owner counted May plan scene seat node _ _ _) (storing_fits scene seat rest (suc node))

  pub part_fits : (instance start : ℕ) → Seated owner counted May plan (scene_of plan instance) → TreeInvokes (λ offset. May (instance + offset)) (routine_at plan.code (function_of plan.code instance)).body → Nested (IsSeat instance (function_of plan.code instance)) 0 (routine_at plan.code (function_of plan.code instance)).body → AreFitting owner counted May (part_strokes plan instance start)
  unfolding part_strokes
  part_fits instance start seat i s =
      let scene = scene_of plan instance in
      join3 owner counted May _ _ _
      (point_fits owner counted May plan scene seat _ _ (storing_fits scene seat (stored_parameters plan scene) start))
      (tree_fits (routine_at plan.code (function_of plan.code instance)).body scene _ _ seat i s)
      (one owner counted May plan scene seat _ _ _ _)
