-- What a pen draws of an instance.
use Rattle.std.specs.Prelude.{ℕ, List, [], ◌∷◌}
use Rattle.wm_program.specs.Code.{routine_at}
use Rattle.wm_flow.specs.declared.scene.Scene.{Scene}
use Rattle.wm_flow.specs.Places.{Plan}
use Rattle.wm_flow.specs.Strokes.{point}
use Rattle.wm_flow.specs.Calls.{addressed_in, result_size}
use Rattle.wm_pen.specs.Ink.{Ink, put}
use Rattle.wm_control.specs.Moves.{joining}
use Rattle.wm_parameters.specs.Draws.{storing_all}
use Rattle.wm_trees.specs.Draws.{embodying}

-- its first node, its parameters, its body and its exit
unfoldable pub parting : Plan → Scene → Ink → Ink
parting plan scene ink =
    joining plan scene (result_size plan scene.function)
    (embodying plan scene (routine_at plan.code scene.function).body
    (storing_all plan scene (put 0 (point plan scene (addressed_in plan scene.function) ∷ []) ink)))
