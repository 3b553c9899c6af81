-- Tests of indices and conversions.
use Rattle.std.proofs.Common.{◌≡◌, ℕ, suc, ◌+◌, Bool, true, false, if◌then◌else◌, List, [], ◌∷◌, ◌++◌, ℤ, pos, negsuc, Some, None, refl, ap, sym, ◌∙◌, arith}
use Rattle.wm_flow.specs.declared.kept.Kept.{Kept}
use Rattle.wm_flow.specs.declared.scene.Scene.{Scene}
use Rattle.wm_flow.specs.declared.action.Combined.TheVariants.{Itself}
use Rattle.wm_flow.specs.Places.{Plan, bases_of}
use Rattle.wm_flow.specs.Strokes.{step, tested}
use Rattle.wm_flow.specs.Yields.{to_temporary}
use Rattle.wm_flow.specs.Expressions.{moves, place_form, place_strokes, narrow_strokes}
use Rattle.wm_pen.specs.Ink.{Ink, put}
use Rattle.wm_pen.proofs.Joins.{put_none, put_after}
use Rattle.wm_steps.specs.Moves.{stepped, kept_away, moving, place_doing, placing, narrowing}

joins_as : (must : Bool) (plan : Plan) (scene : Scene) (offset index : Kept) (low high : ℤ) (site temporaries left : ℕ) (ink : Ink) → stepped plan scene (tested (place_form (bases_of plan scene) offset index temporaries) (place_form (bases_of plan scene) offset index temporaries ∷ []) low high Itself) (Some site) left (if must then kept_away plan scene temporaries index ink else ink) ≡ put (if must then 2 else 1) (if must then to_temporary plan scene ink.node temporaries index ++ step plan scene (suc ink.node) (tested (place_form (bases_of plan scene) offset index temporaries) (place_form (bases_of plan scene) offset index temporaries ∷ []) low high Itself) (Some site) left else step plan scene ink.node (tested (place_form (bases_of plan scene) offset index temporaries) (place_form (bases_of plan scene) offset index temporaries ∷ []) low high Itself) (Some site) left) ink
unfolding stepped kept_away
joins_as true plan scene offset index low high site temporaries left ink =
    let e : ink.node + 1 ≡ suc ink.node = omega arith in
    put_after 1 1 (to_temporary plan scene ink.node temporaries index) (λ node. step plan scene node (tested (place_form (bases_of plan scene) offset index temporaries) (place_form (bases_of plan scene) offset index temporaries ∷ []) low high Itself) (Some site) left) ink
    ∙ ap (λ n. put 2 (to_temporary plan scene ink.node temporaries index ++ step plan scene n (tested (place_form (bases_of plan scene) offset index temporaries) (place_form (bases_of plan scene) offset index temporaries ∷ []) low high Itself) (Some site) left) ink) e
joins_as false plan scene offset index low high site temporaries left ink = refl

pub placing_joins : (plan : Plan) (scene : Scene) (offset index : Kept) (low high : ℤ) (site temporaries left : ℕ) (ink : Ink) → stepped plan scene (place_doing plan scene offset index temporaries low high) (Some site) left (moving plan scene offset index temporaries ink) ≡ placing plan scene offset index low high site temporaries left ink
unfolding moving placing place_doing place_strokes
placing_joins plan scene offset index low high site temporaries left ink = joins_as (moves offset index) plan scene offset index low high site temporaries left ink

pub narrowing_nowhere : (plan : Plan) (scene : Scene) (kept : Kept) (temporaries : ℕ) (ink : Ink) → narrowing plan scene None kept temporaries ink ≡ ink
unfolding narrowing narrow_strokes
narrowing_nowhere plan scene kept temporaries ink = put_none ink

pub narrowing_there : (plan : Plan) (scene : Scene) (site : ℕ) (kept : Kept) (temporaries : ℕ) (ink : Ink) → narrowing plan scene (Some site) kept temporaries ink ≡ stepped plan scene (tested kept (kept ∷ []) (negsuc 32767) (pos 32767) Itself) (Some site) temporaries ink
unfolding narrowing narrow_strokes stepped
narrowing_there plan scene site kept temporaries ink = refl
