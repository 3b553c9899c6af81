-- An instance: how many nodes its pieces make together, and their strokes one after another.
use Rattle.std.proofs.Common.{◌≡◌, ℕ, zero, suc, ◌+◌, ◌≤◌, length, map, refl, List, [], ◌∷◌, ◌++◌, None, ap, sym, ◌∙◌, arith}
use Rattle.std.specs.Prelude.{slice_index_or}
use Rattle.wm_program.specs.declared.program.FunctionInfo.{FunctionInfo}
use Rattle.wm_program.specs.Tree.{Tree, Skip}
use Rattle.wm_program.specs.Code.{routine_of, no_routine, routine_at}
use Rattle.wm_flow.specs.declared.scene.Scene.{Scene}
use Rattle.wm_flow.specs.Places.{Plan}
use Rattle.wm_flow.specs.Strokes.{Stroke, point, step, nothing}
use Rattle.wm_flow.specs.Calls.{scene_of, addressed_in, result_size}
use Rattle.wm_flow.specs.Statements.{tree_size, tree_strokes}
use Rattle.wm_flow.specs.Parts.{stored_parameters, storing_from, at_exit, part_size, part_strokes}
use Rattle.wm_pen.specs.Ink.{Ink, put, drawing, measuring}
use Rattle.wm_pen.proofs.Joins.{put_none}
use Rattle.wm_control.specs.Moves.{joining}
use Rattle.wm_parameters.specs.Draws.{storing_all}
use Rattle.wm_trees.specs.Draws.{embodying}
use Rattle.wm_parts.specs.Draws.{parting}

-- a function of a number that no function has
pub routine_past : (functions : List FunctionInfo) (k : ℕ) → length functions ≤ k → slice_index_or (map routine_of functions) k no_routine ≡ no_routine
routine_past [] k h = refl
routine_past (f ∷ fs) zero h = absurd (omega arith)
routine_past (f ∷ fs) (suc k) h = routine_past fs k (omega arith)

-- no statement at all
none_drawn : (plan : Plan) (scene : Scene) (ink : Ink) → embodying plan scene Skip ink ≡ ink
unfolding embodying tree_size tree_strokes
none_drawn plan scene ink = put_none ink

pub none_is : (plan : Plan) (scene : Scene) (body : Tree) (ink : Ink) → body ≡ Skip → ink ≡ embodying plan scene body ink
none_is plan scene body ink h = sym (ap (λ it. embodying plan scene it ink) h ∙ none_drawn plan scene ink)

pub part_measured : (plan : Plan) (instance : ℕ) → (parting plan (scene_of plan instance) measuring).node ≡ part_size plan instance
unfolding parting joining embodying storing_all put part_size
part_measured plan instance = grind arith

-- the strokes behind the first node, which stands at a number
abbrev behind : Plan → Scene → Tree → ℕ → List Stroke
behind plan scene body start =
    let first = start + addressed_in plan scene.function in
    let end = first + tree_size plan body scene (at_exit 0) in
    (storing_from plan scene (stored_parameters plan scene) start
    ++ tree_strokes plan body scene (at_exit (suc end)) first)
    ++ step plan scene end nothing None (result_size plan scene.function)

pub part_drawn : (plan : Plan) (instance start : ℕ) → (parting plan (scene_of plan instance) (drawing start)).strokes ≡ part_strokes plan instance start
unfolding parting joining embodying storing_all put part_strokes
part_drawn plan instance start =
    let scene = scene_of plan instance in
    let body = (routine_at plan.code scene.function).body in
    let e : start + 0 ≡ start = omega arith in
    let head = point plan scene (addressed_in plan scene.function) in
    ap (λ s. head ∷ behind plan scene body s) e
