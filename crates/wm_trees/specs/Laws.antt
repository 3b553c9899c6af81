-- How statements stand together of their parts.
use Rattle.std.specs.Prelude.{ℕ, suc, ◌+◌, ◌≡◌, Bool, List, [], ◌++◌}
use Rattle.wm_program.specs.Tree.{Test, Tree, Effect, Seq, If, IfElse, For, While, Do}
use Rattle.wm_flow.specs.declared.scene.Scene.{Scene}
use Rattle.wm_flow.specs.Places.{Plan}
use Rattle.wm_flow.specs.Tests.{test_size}
use Rattle.wm_flow.specs.Effects.{effects_size}
use Rattle.wm_flow.specs.Statements.{Around, in_loop, inside, word_size, tree_size}
use Rattle.wm_flow.specs.Parts.{at_exit}
use Rattle.wm_pen.specs.Ink.{Ink, ruler, ahead}
use Rattle.wm_control.specs.Moves.{joining}
use Rattle.wm_arms.specs.Moves.{choosing, otherwise_moving, asking_for, asking_while, asking_last, opening_for, for_head, opening_while, opening_do, do_head, closing_for, closing_while}
use Rattle.wm_trees.specs.Draws.{moving, embodying}

-- the same blocks, with other nodes
abbrev pub leading : (stop again exit : ℕ) → (near far : List ℕ) → Around
leading stop again exit near far =
    record { stop = stop; again = again; exit = exit; near = near; far = far }

-- how many nodes a statement makes does not rest on where it leads
abbrev pub SizeStands : Type 0
SizeStands = (plan : Plan) (tree : Tree) (scene : Scene) (s a e t b f : ℕ) (near far : List ℕ) → tree_size plan tree scene (leading s a e near far) ≡ tree_size plan tree scene (leading t b f near far)

-- one statement behind another
abbrev pub SeqDrawn : Type 0
SeqDrawn = (plan : Plan) (scene : Scene) (around : Around) (first rest : Tree) (ink : Ink) → moving plan scene around rest (moving plan scene around first ink) ≡ moving plan scene around (Seq first rest) ink

-- what a ruler tells of a statement
abbrev pub TreeRuled : Type 0
TreeRuled = (plan : Plan) (scene : Scene) (around : Around) (tree : Tree) (ink : Ink) → (moving plan scene around tree (ruler ink)).node ≡ ahead ink (tree_size plan tree scene around)

-- an if, without and with its other part, whose statements a ruler has told
abbrev pub IfDrawn : Type 0
IfDrawn = (plan : Plan) (scene : Scene) (around : Around) (is_counted : Bool) (test : Test) (first : Tree) (ink : Ink) → joining plan scene 0 (moving plan scene around first (choosing plan scene is_counted test (moving plan scene around first (ruler ink)).node ink)) ≡ moving plan scene around (If is_counted test first) ink

abbrev pub ElseDrawn : Type 0
ElseDrawn = (plan : Plan) (scene : Scene) (around : Around) (is_counted : Bool) (test : Test) (first : Tree) (is_else_counted : Bool) (other : Tree) (ink : Ink) → joining plan scene 0 (moving plan scene around other (otherwise_moving plan scene is_else_counted (moving plan scene around other (ruler (moving plan scene around first (choosing plan scene is_counted test (moving plan scene around first (ruler ink)).node ink)))).node (moving plan scene around first (choosing plan scene is_counted test (moving plan scene around first (ruler ink)).node ink)))) ≡ moving plan scene around (IfElse is_counted test first is_else_counted other) ink

-- a body, whose exit a ruler has told
abbrev pub BodyDrawn : Type 0
BodyDrawn = (plan : Plan) (scene : Scene) (tree : Tree) (ink : Ink) → moving plan scene (at_exit (suc (ink.node + (moving plan scene (at_exit 0) tree (ruler ink)).node))) tree ink ≡ embodying plan scene tree ink
