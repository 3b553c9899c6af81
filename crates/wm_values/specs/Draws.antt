-- What a pen draws of expressions and of arguments.
use Rattle.std.specs.Prelude.{ℕ}
use Rattle.wm_program.specs.Tree.{Expression, Arguments}
use Rattle.wm_flow.specs.declared.scene.Scene.{Scene}
use Rattle.wm_flow.specs.declared.scene.Held.{Held}
use Rattle.wm_flow.specs.Places.{Plan}
use Rattle.wm_flow.specs.Expressions.{size, sizes, strokes, all_strokes}
use Rattle.wm_pen.specs.Ink.{Ink, put}

-- an expression, with so many temporaries in use before it
unfoldable pub evaluating : Plan → Scene → Expression → (temporaries : ℕ) → Ink → Ink
evaluating plan scene x temporaries ink = put (size plan scene x temporaries) (strokes plan scene x ink.node temporaries) ink

-- arguments behind others
unfoldable pub evaluating_all : Plan → Scene → Arguments → Held → Ink → Ink
evaluating_all plan scene args held ink = put (sizes plan scene args held) (all_strokes plan scene args ink.node held) ink
