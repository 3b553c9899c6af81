-- A call: the edge to the first node of the instance, its nodes, and the edge back.
use Rattle.std.proofs.Common.{◌≡◌, ℕ, suc, ◌+◌, [], ◌∷◌, List, None, ap, ◌∙◌, arith}
use Rattle.wm_flow.specs.declared.kept.Kept.{Kept}
use Rattle.wm_flow.specs.declared.scene.Scene.{Scene}
use Rattle.wm_flow.specs.Places.{Plan}
use Rattle.wm_flow.specs.Strokes.{Line, Part, point}
use Rattle.wm_flow.specs.Calls.{enter, leave, result_size}
use Rattle.wm_flow.specs.Expressions.{size_at, call_strokes}
use Rattle.wm_pen.specs.Ink.{Ink, put}
use Rattle.wm_pen.proofs.Joins.{put_twice}
use Rattle.wm_results.specs.Draws.{calling}

pub calling_joins : (plan : Plan) (scene : Scene) (function instance : ℕ) (values : List Kept) (temporaries : ℕ) (ink : Ink) → put 1 (point plan scene (temporaries + result_size plan function) ∷ []) (put (suc (size_at plan instance)) [] (put 0 (Line (suc ink.node + size_at plan instance) (suc (suc ink.node + size_at plan instance)) (leave plan scene instance ink.node temporaries) None ∷ []) (put 0 (Part instance (suc ink.node) ∷ []) (put 0 (Line ink.node (suc ink.node) (enter plan scene instance values) None ∷ []) ink)))) ≡ calling plan scene function instance values temporaries ink
unfolding calling call_strokes
calling_joins plan scene function instance values temporaries ink =
    let s = size_at plan instance in
    let exit = suc ink.node + s in
    let a = Line ink.node (suc ink.node) (enter plan scene instance values) None in
    let b = Part instance (suc ink.node) in
    let c = Line exit (suc exit) (leave plan scene instance ink.node temporaries) None in
    let d = point plan scene (temporaries + result_size plan function) in
    let e : 0 + suc s + 1 ≡ s + 2 = omega arith in
    ap (λ (k : Ink). put 1 (d ∷ []) (put (suc s) [] (put 0 (c ∷ []) k))) (put_twice 0 0 (a ∷ []) (b ∷ []) ink)
    ∙ (ap (λ (k : Ink). put 1 (d ∷ []) (put (suc s) [] k)) (put_twice 0 0 (a ∷ b ∷ []) (c ∷ []) ink)
    ∙ (ap (λ (k : Ink). put 1 (d ∷ []) k) (put_twice 0 (suc s) (a ∷ b ∷ c ∷ []) [] ink)
    ∙ (put_twice (0 + suc s) 1 (a ∷ b ∷ c ∷ []) (d ∷ []) ink
    ∙ ap (λ n. put n (a ∷ b ∷ c ∷ d ∷ []) ink) e)))
