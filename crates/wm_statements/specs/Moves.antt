-- What a pen does with the two parts of an if, each with the number of nodes that a ruler tells before.
use Rattle.std.specs.Prelude.{ℕ, Bool, List, [], ◌∷◌}
use Rattle.wm_program.specs.Tree.{Test, Tree}
use Rattle.wm_flow.specs.declared.scene.Scene.{Scene}
use Rattle.wm_flow.specs.Places.{Plan}
use Rattle.wm_flow.specs.Statements.{Around}
use Rattle.wm_pen.specs.Ink.{Ink, ruler}
use Rattle.wm_control.specs.Moves.{joining}
use Rattle.wm_arms.specs.Moves.{choosing, otherwise_moving}
use Rattle.wm_trees.specs.Draws.{moving}

-- inside a block, with all scalars that are left on the way out of the loop
abbrev pub within_block : List ℕ → Around → Around
within_block near around = record around { near = near }

-- the condition, and the statement behind it
unfoldable pub first_moving : Plan → Scene → Around → Bool → Test → Tree → Ink → Ink
first_moving plan scene around is_counted test first ink =
    moving plan scene around first
    (choosing plan scene is_counted test (moving plan scene around first (ruler ink)).node ink)

-- the other part, and where the ways join
unfoldable pub other_moving : Plan → Scene → Around → Bool → Tree → Ink → Ink
other_moving plan scene around is_counted other ink =
    joining plan scene 0
    (moving plan scene around other
    (otherwise_moving plan scene is_counted (moving plan scene around other (ruler ink)).node ink))

-- statements one after another
abbrev pub moving_all : Plan → Scene → Around → List Tree → Ink → Ink
moving_all plan scene around [] ink = ink
moving_all plan scene around (tree ∷ rest) ink = moving_all plan scene around rest (moving plan scene around tree ink)
