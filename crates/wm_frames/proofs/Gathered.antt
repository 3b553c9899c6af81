-- The strokes of the whole graph.
use Rattle.std.proofs.Common.{◌≡◌, ℕ, List, [], ◌∷◌, ◌++◌, refl, ap, sym, ◌∙◌, append_assoc}
use Rattle.wm_flow.specs.Places.{Plan}
use Rattle.wm_flow.specs.Strokes.{point}
use Rattle.wm_flow.specs.Calls.{scene_of}
use Rattle.wm_flow.specs.Graphs.{before_frames, frame_strokes, head_node, whole_strokes}
use Rattle.wm_pen.specs.declared.stroke.Stroke.{Stroke}
use Rattle.wm_pen.specs.Seen.{stroke_of, strokes_of}
use Rattle.wm_frames.specs.Frames.{frame_start, frame_inside, frame_end}

pub strokes_joined : (xs ys : List Stroke) → strokes_of (xs ++ ys) ≡ strokes_of xs ++ strokes_of ys
strokes_joined [] ys = refl
strokes_joined (x ∷ xs) ys = ap (λ rest. stroke_of x ∷ rest) (strokes_joined xs ys)

pub whole_gathered : (plan : Plan) → (((before_frames plan plan.code.init ++ frame_start plan (head_node plan)) ++ point plan (scene_of plan plan.code.frame) 0 ∷ []) ++ frame_inside plan (head_node plan)) ++ frame_end plan (head_node plan) ≡ whole_strokes plan
unfolding whole_strokes frame_strokes
whole_gathered plan =
    let b = before_frames plan plan.code.init in
    let s = frame_start plan (head_node plan) in
    let p = point plan (scene_of plan plan.code.frame) 0 ∷ [] in
    let r = frame_inside plan (head_node plan) in
    let k = frame_end plan (head_node plan) in
    append_assoc ((b ++ s) ++ p) r k ∙ (append_assoc (b ++ s) p (r ++ k) ∙ append_assoc b s (p ++ (r ++ k)))
