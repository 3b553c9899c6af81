-- What a pen draws of statements and of the body of a function.
use Rattle.std.specs.Prelude.{ℕ, suc, ◌+◌}
use Rattle.wm_program.specs.Tree.{Tree}
use Rattle.wm_flow.specs.declared.scene.Scene.{Scene}
use Rattle.wm_flow.specs.Places.{Plan}
use Rattle.wm_flow.specs.Statements.{Around, tree_size, tree_strokes}
use Rattle.wm_flow.specs.Parts.{at_exit}
use Rattle.wm_pen.specs.Ink.{Ink, put}

unfoldable pub moving : Plan → Scene → Around → Tree → Ink → Ink
moving plan scene around tree ink =
    put (tree_size plan tree scene around) (tree_strokes plan tree scene around ink.node) ink

-- a body, whose exit is the node behind the one at which it ends
unfoldable pub embodying : Plan → Scene → Tree → Ink → Ink
embodying plan scene tree ink =
    put (tree_size plan tree scene (at_exit 0))
    (tree_strokes plan tree scene (at_exit (suc (ink.node + tree_size plan tree scene (at_exit 0)))) ink.node) ink
