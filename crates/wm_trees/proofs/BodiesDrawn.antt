-- The body of a function, whose exit a ruler tells.
use Rattle.std.proofs.Common.{◌≡◌, ℕ, suc, ◌+◌, [], refl, ap, sym, ◌∙◌}
use Rattle.wm_program.specs.Tree.{Tree}
use Rattle.wm_flow.specs.declared.scene.Scene.{Scene}
use Rattle.wm_flow.specs.Places.{Plan}
use Rattle.wm_flow.specs.Statements.{tree_size, tree_strokes}
use Rattle.wm_flow.specs.Parts.{at_exit}
use Rattle.wm_pen.specs.Ink.{Ink, put, ruler, ahead}
use Rattle.wm_pen.proofs.Joins.{put_ahead}
use Rattle.wm_trees.specs.Draws.{moving, embodying}
use Rattle.wm_trees.proofs.Sizes.{same_size}
use Rattle.wm_trees.proofs.TreesDrawn.{tree_ruled}

exit_size : (plan : Plan) (scene : Scene) (tree : Tree) (exit : ℕ) (ink : Ink) → moving plan scene (at_exit exit) tree ink ≡ put (tree_size plan tree scene (at_exit 0)) (tree_strokes plan tree scene (at_exit exit) ink.node) ink
unfolding moving
exit_size plan scene tree exit ink =
    ap (λ n. put n (tree_strokes plan tree scene (at_exit exit) ink.node) ink) (same_size plan tree scene exit exit exit 0 0 0 [] [])

pub body_drawn : (plan : Plan) (scene : Scene) (tree : Tree) (ink : Ink) → moving plan scene (at_exit (suc (ink.node + (moving plan scene (at_exit 0) tree (ruler ink)).node))) tree ink ≡ embodying plan scene tree ink
unfolding embodying
body_drawn plan scene tree ink =
    let n = tree_size plan tree scene (at_exit 0) in
    ap (λ m. moving plan scene (at_exit (suc (ink.node + m))) tree ink) (tree_ruled plan scene (at_exit 0) tree ink)
    ∙ (exit_size plan scene tree (suc (ink.node + ahead ink n)) ink
    ∙ put_ahead n n (λ m. tree_strokes plan tree scene (at_exit (suc (ink.node + m))) ink.node) ink)
