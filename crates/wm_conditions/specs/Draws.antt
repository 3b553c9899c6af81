-- What a pen draws of a condition.
use Rattle.std.specs.Prelude.{ℕ}
use Rattle.wm_program.specs.Tree.{Test}
use Rattle.wm_flow.specs.declared.scene.Scene.{Scene}
use Rattle.wm_flow.specs.Places.{Plan}
use Rattle.wm_flow.specs.Tests.{test_size, test_strokes}
use Rattle.wm_pen.specs.Ink.{Ink, put}

-- to the node `hit` where it holds, and to `miss` where it does not
unfoldable pub testing : Plan → Scene → Test → (hit miss : ℕ) → Ink → Ink
testing plan scene test hit miss ink = put (test_size plan scene test) (test_strokes plan scene test ink.node hit miss) ink
