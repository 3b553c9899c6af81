-- The strokes of a frame in pieces: before the first node of the frame function, behind it, and the way back.
use Rattle.std.specs.Prelude.{ℕ, ◌+◌, List, [], ◌∷◌, None}
use Rattle.wm_flow.specs.Places.{Plan}
use Rattle.wm_flow.specs.Strokes.{Stroke, Line, Part, Begins, Turns}
use Rattle.wm_flow.specs.Calls.{to_head, from_head}
use Rattle.wm_flow.specs.Expressions.{size_at}
use Rattle.wm_flow.specs.Graphs.{static_point, taking_inputs}

abbrev pub frame_start : Plan → (head : ℕ) → List Stroke
frame_start plan head =
    Begins 0 None None head ∷ static_point ∷ Line head (head + 1) (from_head plan plan.code.frame) None ∷ []

abbrev pub frame_inside : Plan → (head : ℕ) → List Stroke
frame_inside plan head =
    Line (head + 1) (head + 2) (taking_inputs plan) None ∷ Part plan.code.frame (head + 2) ∷ []

-- the last node of the frame function
abbrev pub exit_of : Plan → (head : ℕ) → ℕ
exit_of plan head = head + 2 + size_at plan plan.code.frame

abbrev pub frame_end : Plan → (head : ℕ) → List Stroke
frame_end plan head = Line (exit_of plan head) head (to_head plan plan.code.frame) None ∷ Turns 0 ∷ []
