-- The strokes of an instance begin the heads of its loops, and have its calls as parts.
use Rattle.std.proofs.Common.{◌≡◌, ℕ, suc, ◌+◌, List, [], ◌∷◌, ◌∙◌, arith}
use Rattle.wm_program.specs.Code.{routine_at, function_of}
use Rattle.wm_program.specs.WellFormed.{calls_of}
use Rattle.wm_flow.specs.declared.scene.Scene.{Scene}
use Rattle.wm_flow.specs.Places.{Plan}
use Rattle.wm_flow.specs.Calls.{scene_of}
use Rattle.wm_flow.specs.Parts.{storing_from, stored_parameters, part_strokes}
use Rattle.wm_heads.specs.Bodies.{loops_of}
use Rattle.wm_heads.specs.Tally.{begins, called, own}
use Rattle.wm_heads.proofs.Counted.{join2, join3, quiet_none, quiet_step, quiet_point}
use Rattle.wm_heads.proofs.Trees.{tree_count}

module _ (n : ℕ) (part : ℕ → ℕ) (plan : Plan) where
  quiet_storing : (scene : Scene) (arrays : List ℕ) (node : ℕ) → begins n part (storing_from plan scene arrays node) ≡ 0
  quiet_storing scene [] node = quiet_none n part
  quiet_storing scene (array ∷ rest) node =
      join2 n part _ _ 0 0 (quiet_step n part plan scene node _ _ _) (quiet_storing scene rest (suc node))

  pub part_count : (instance start : ℕ) → begins n part (part_strokes plan instance start) ≡ own n plan.tables instance (loops_of (routine_at plan.code (function_of plan.code instance)).body) + called part instance (calls_of (routine_at plan.code (function_of plan.code instance)).body)
  unfolding part_strokes
  part_count instance start =
      let scene = scene_of plan instance in
      join3 n part _ _ _ 0 _ 0
      (quiet_point n part plan scene _ _ ∙ quiet_storing scene (stored_parameters plan scene) start)
      (tree_count n part plan (routine_at plan.code (function_of plan.code instance)).body scene _ _)
      (quiet_step n part plan scene _ _ _ _)
      ∙ omega arith
