-- Stores, the indices of elements that are written, and updates, in the pieces in which they are drawn.
use Rattle.std.proofs.Common.{◌≡◌, ℕ, suc, ◌+◌, pos, List, [], ◌∷◌, ◌++◌, Option, Some, None, ap, sym, ◌∙◌, append_assoc, arith}
use Rattle.wm_program.specs.declared.tree.Array.{Array}
use Rattle.wm_program.specs.declared.tree.PlainMark.{PlainMark}
use Rattle.wm_program.specs.Tree.{Expression}
use Rattle.wm_flow.specs.declared.kept.Kept.{Kept}
use Rattle.wm_flow.specs.declared.scene.Scene.{Scene}
use Rattle.wm_flow.specs.declared.scene.Source.{Source}
use Rattle.wm_flow.specs.Places.{Plan, bases_of, overflow_place, offset_of}
use Rattle.wm_flow.specs.Strokes.{Stroke, step}
use Rattle.wm_flow.specs.Yields.{coming, after, yield_size, yield_strokes}
use Rattle.wm_flow.specs.Expressions.{value, values_after, no_values, size, sizes, strokes, all_strokes, operate_size, operate_strokes, left_waiting, only_value, plain_value, plain_strokes, narrow_size, narrow_strokes, place_size, place_strokes, last_index}
use Rattle.wm_flow.specs.Effects as effects
use Rattle.wm_flow.specs.Effects.{Direct, stored_size, stored_strokes, store_size, store_strokes, found_strokes, update_size, update_strokes, current, current_size, current_strokes}
use Rattle.wm_pen.specs.Ink.{Ink, put}
use Rattle.wm_pen.proofs.Joins.{put_after, put_after3, put_after4}
use Rattle.wm_steps.specs.Moves.{stepped, placing, narrowing, operating}
use Rattle.wm_results.specs.Draws.{locating}
use Rattle.wm_stores.specs.Draws.{finishing, looking}
use Rattle.wm_values.specs.Draws.{evaluating, evaluating_all}
use Rattle.wm_values.specs.Turns.{linked, linking}
use Rattle.wm_values.proofs.ChainsDrawn.{linked_as, linking_as}
use Rattle.wm_effects.specs.Stores.{giving, keeping, storing_by, storing, finding, updating}

-- ---- stores

stored_as : (d : Option Direct) (plan : Plan) (scene : Scene) (source : Source) (cells : ℕ) (x : Expression) (site : Option ℕ) (ink : Ink) → put (stored_size plan scene d x site) (stored_strokes plan scene d source cells x site ink.node) ink ≡ storing_by plan scene d source cells x site ink
unfolding giving operating evaluating_all keeping finishing stepped narrowing evaluating
stored_as (Some it) plan scene source cells x site ink =
    let none = no_values plan scene 0 in
    let held = values_after plan scene it.arguments none in
    sym (put_after (sizes plan scene it.arguments none) (operate_size (bases_of plan scene) held) (all_strokes plan scene it.arguments ink.node none) (λ node. operate_strokes plan scene it.op it.site held node it.target 0) ink)
stored_as None plan scene source cells x site ink =
    let kept = value plan scene x 0 in
    sym (put_after3 (size plan scene x 0) (narrow_size site) 1
    (strokes plan scene x ink.node 0)
    (λ node. narrow_strokes plan scene site kept node (after (bases_of plan scene) kept 0))
    (λ node. step plan scene node (effects.storing source kept cells) None 0) ink)

pub storing_as : (plan : Plan) (scene : Scene) (source : Source) (cells : ℕ) (x : Expression) (site : Option ℕ) (ink : Ink) → storing plan scene source cells x site ink ≡ storing_by plan scene (effects.direct (overflow_place (bases_of plan scene)) source x site) source cells x site ink
unfolding storing store_size store_strokes
storing_as plan scene source cells x site ink = stored_as (effects.direct (overflow_place (bases_of plan scene)) source x site) plan scene source cells x site ink

-- ---- indices

pub finding_joins : (plan : Plan) (scene : Scene) (array : Array) (index : Expression) (site : ℕ) (ink : Ink) → locating plan scene array site (value plan scene index 0) (after (bases_of plan scene) (value plan scene index 0) 0) 0 (evaluating plan scene index 0 ink) ≡ finding plan scene array index site ink
unfolding locating placing evaluating finding found_strokes
finding_joins plan scene array index site ink =
    let at = value plan scene index 0 in
    put_after (size plan scene index 0) (place_size (offset_of plan scene array) at) (strokes plan scene index ink.node 0) (λ node. place_strokes plan scene (offset_of plan scene array) at (pos 0) (last_index plan scene array) site node (after (bases_of plan scene) at 0) 0) ink

-- ---- updates

regroup : (a b c d : List Stroke) → a ++ (b ++ c ++ d) ≡ a ++ b ++ c ++ d
regroup a b c d = simp append_assoc

ended : (plan : Plan) (scene : Scene) (source : Source) (cells : ℕ) (site narrow : Option ℕ) (mark : PlainMark) (x : Expression) (arithmetic : ℕ) (ink : Ink) → finishing plan scene source cells narrow (plain_value (bases_of plan scene) mark (only_value plan scene (left_waiting plan scene (current plan scene source) x 0)) (value plan scene x (left_waiting plan scene (current plan scene source) x 0).temporaries) 0) (put (yield_size (bases_of plan scene) (coming x) (current plan scene source ∷ []) + size plan scene x (left_waiting plan scene (current plan scene source) x 0).temporaries + 1) (yield_strokes plan scene (coming x) (current plan scene source ∷ []) (looking plan scene source site ink).node (after (bases_of plan scene) (current plan scene source) 0) ++ strokes plan scene x ((looking plan scene source site ink).node + yield_size (bases_of plan scene) (coming x) (current plan scene source ∷ [])) (left_waiting plan scene (current plan scene source) x 0).temporaries ++ plain_strokes plan scene mark (only_value plan scene (left_waiting plan scene (current plan scene source) x 0)) (value plan scene x (left_waiting plan scene (current plan scene source) x 0).temporaries) arithmetic ((looking plan scene source site ink).node + yield_size (bases_of plan scene) (coming x) (current plan scene source ∷ []) + size plan scene x (left_waiting plan scene (current plan scene source) x 0).temporaries) 0) (looking plan scene source site ink)) ≡ updating plan scene source cells site mark x arithmetic narrow ink
unfolding finishing stepped narrowing looking updating update_size update_strokes
ended plan scene source cells site narrow mark x arithmetic ink =
    let bases = bases_of plan scene in
    let first = current plan scene source in
    let left = left_waiting plan scene first x 0 in
    let a = only_value plan scene left in
    let b = value plan scene x left.temporaries in
    let kept = plain_value bases mark a b 0 in
    let cs = current_size plan scene source in
    let ys = yield_size bases (coming x) (first ∷ []) in
    let sz = size plan scene x left.temporaries in
    let ns = narrow_size narrow in
    let c = current_strokes plan scene source site ink.node in
    let y = λ (node : ℕ). yield_strokes plan scene (coming x) (first ∷ []) node (after bases first 0) in
    let s = λ (node : ℕ). strokes plan scene x node left.temporaries in
    let p = λ (node : ℕ). plain_strokes plan scene mark a b arithmetic node 0 in
    let f = λ (node : ℕ). y node ++ s (node + ys) ++ p (node + ys + sz) in
    let n = λ (node : ℕ). narrow_strokes plan scene narrow kept node (after bases kept 0) in
    let w = λ (node : ℕ). step plan scene node (effects.storing source kept cells) None 0 in
    let second = ink.node + cs in
    let fourth = second + ys + sz in
    let total = cs + ys + sz + 1 + ns + 1 in
    let e : cs + (ys + sz + 1) + ns + 1 ≡ total = omega arith in
    let h : ink.node + cs + (ys + sz + 1) ≡ suc fourth = omega arith in
    put_after4 cs (ys + sz + 1) ns 1 c f n w ink
    ∙ (ap (λ (k : ℕ). put k (c ++ f second ++ n (second + (ys + sz + 1)) ++ w (second + (ys + sz + 1) + ns)) ink) e
    ∙ (ap (λ (k : ℕ). put total (c ++ f second ++ n k ++ w (k + ns)) ink) h
    ∙ ap (λ (xs : List Stroke). put total (xs ++ n (suc fourth) ++ w (suc fourth + ns)) ink) (regroup c (y second) (s (second + ys)) (p fourth))))

pub updating_joins : (plan : Plan) (scene : Scene) (source : Source) (cells : ℕ) (site narrow : Option ℕ) (mark : PlainMark) (x : Expression) (arithmetic : ℕ) (ink : Ink) → finishing plan scene source cells narrow (linked plan scene mark x (current plan scene source) 0) (linking plan scene mark x arithmetic (current plan scene source) 0 (looking plan scene source site ink)) ≡ updating plan scene source cells site mark x arithmetic narrow ink
updating_joins plan scene source cells site narrow mark x arithmetic ink =
    let first = current plan scene source in
    ap (λ (v : Kept). finishing plan scene source cells narrow v (linking plan scene mark x arithmetic first 0 (looking plan scene source site ink))) (linked_as plan scene mark x first 0)
    ∙ (ap (λ (k : Ink). finishing plan scene source cells narrow (plain_value (bases_of plan scene) mark (only_value plan scene (left_waiting plan scene first x 0)) (value plan scene x (left_waiting plan scene first x 0).temporaries) 0) k) (linking_as plan scene mark x arithmetic first 0 (looking plan scene source site ink))
    ∙ ended plan scene source cells site narrow mark x arithmetic ink)
