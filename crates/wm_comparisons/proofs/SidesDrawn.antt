-- The sides of a comparison, and its two ways behind them.
use Rattle.std.proofs.Common.{◌≡◌, ℕ, ◌+◌, Bool, true, false, if◌then◌else◌, [], ◌++◌, refl, ap, ◌∙◌, arith}
use Rattle.wm_program.specs.declared.tree.Comparison.{Comparison}
use Rattle.wm_flow.specs.declared.kept.Kept.{Kept}
use Rattle.wm_flow.specs.declared.scene.Scene.{Scene}
use Rattle.wm_flow.specs.declared.scene.Sides.{Sides}
use Rattle.wm_flow.specs.Places.{Plan, bases_of}
use Rattle.wm_flow.specs.Yields.{to_temporary}
use Rattle.wm_flow.specs.Tests.{ways, is_apart, goes, side_value, side_size, side_strokes, sides_strokes, difference_of}
use Rattle.wm_pen.specs.Ink.{Ink, put}
use Rattle.wm_pen.proofs.Joins.{put_none, put_after3}
use Rattle.wm_steps.specs.Moves.{kept_away}
use Rattle.wm_comparisons.specs.Draws.{standing, siding, parting, comparing}

side_as : (goes : Bool) (plan : Plan) (scene : Scene) (kept : Kept) (temporaries : ℕ) (ink : Ink) → put (if goes then 1 else 0) (if goes then to_temporary plan scene ink.node temporaries kept else []) ink ≡ (if goes then kept_away plan scene temporaries kept ink else ink)
unfolding kept_away
side_as true plan scene kept temporaries ink = refl
side_as false plan scene kept temporaries ink = put_none ink

pub side_drawn : (plan : Plan) (scene : Scene) (apart : Bool) (kept : Kept) (temporaries : ℕ) (ink : Ink) → siding plan scene apart kept temporaries ink ≡ (if goes apart kept then kept_away plan scene temporaries kept ink else ink)
unfolding siding
side_drawn plan scene apart kept temporaries ink = side_as (goes apart kept) plan scene kept temporaries ink

pub comparing_joins : (plan : Plan) (scene : Scene) (mark : Comparison) (sides : Sides) (hit miss : ℕ) (ink : Ink) → parting mark (difference_of (standing (bases_of plan scene) (is_apart sides) sides.left sides.temporaries).value (standing (bases_of plan scene) (is_apart sides) sides.right (standing (bases_of plan scene) (is_apart sides) sides.left sides.temporaries).temporaries).value) hit miss (siding plan scene (is_apart sides) sides.right (standing (bases_of plan scene) (is_apart sides) sides.left sides.temporaries).temporaries (siding plan scene (is_apart sides) sides.left sides.temporaries ink)) ≡ comparing plan scene mark sides hit miss ink
unfolding parting standing siding comparing sides_strokes
comparing_joins plan scene mark sides hit miss ink =
    let bases = bases_of plan scene in
    let apart = is_apart sides in
    let a = side_size apart sides.left in
    let b = side_size apart sides.right in
    let second = sides.temporaries + a in
    let difference = difference_of (side_value bases apart sides.left sides.temporaries) (side_value bases apart sides.right second) in
    let first = side_strokes plan scene apart sides.left ink.node sides.temporaries ++ side_strokes plan scene apart sides.right (ink.node + a) second in
    let e : a + b + 0 ≡ a + b = omega arith in
    let h : ink.node + a + b ≡ ink.node + (a + b) = omega arith in
    put_after3 a b 0 (side_strokes plan scene apart sides.left ink.node sides.temporaries) (λ node. side_strokes plan scene apart sides.right node second) (λ node. ways mark difference node hit miss) ink
    ∙ (ap (λ n. put n (first ++ ways mark difference (ink.node + a + b) hit miss) ink) e
    ∙ ap (λ n. put (a + b) (first ++ ways mark difference n hit miss) ink) h)
