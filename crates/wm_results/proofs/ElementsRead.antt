-- An element: the test of its index, and then its read.
use Rattle.std.proofs.Common.{◌≡◌, ℕ, suc, pos, Some}
use Rattle.wm_program.specs.declared.tree.Array.{Array}
use Rattle.wm_flow.specs.declared.kept.Kept.{Kept}
use Rattle.wm_flow.specs.declared.scene.Scene.{Scene}
use Rattle.wm_flow.specs.Places.{Plan, bases_of, temporary, offset_of, array_source}
use Rattle.wm_flow.specs.Strokes.{step}
use Rattle.wm_flow.specs.Yields.{after}
use Rattle.wm_flow.specs.Expressions.{reading, reading_site, place_size, place_strokes, last_index}
use Rattle.wm_pen.specs.Ink.{Ink}
use Rattle.wm_pen.proofs.Joins.{put_after}
use Rattle.wm_steps.specs.Moves.{stepped, placing}
use Rattle.wm_results.specs.Draws.{locating, indexing}

pub indexing_joins : (plan : Plan) (scene : Scene) (array : Array) (site : ℕ) (at : Kept) (temporaries : ℕ) (ink : Ink) → stepped plan scene (reading (array_source plan scene array) (temporary (bases_of plan scene) temporaries)) (reading_site (array_source plan scene array) (Some site)) (suc temporaries) (locating plan scene array site at (after (bases_of plan scene) at temporaries) (after (bases_of plan scene) at temporaries) ink) ≡ indexing plan scene array site at temporaries ink
unfolding stepped locating placing indexing
indexing_joins plan scene array site at temporaries ink =
    let count = after (bases_of plan scene) at temporaries in
    put_after (place_size (offset_of plan scene array) at) 1 (place_strokes plan scene (offset_of plan scene array) at (pos 0) (last_index plan scene array) site ink.node count count) (λ node. step plan scene node (reading (array_source plan scene array) (temporary (bases_of plan scene) temporaries)) (reading_site (array_source plan scene array) (Some site)) (suc temporaries)) ink
