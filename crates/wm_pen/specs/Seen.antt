-- What the recorded strokes say.
use Rattle.std.specs.Prelude.{List, [], ◌∷◌}
use Rattle.wm_flow.specs.Strokes as strokes
use Rattle.wm_flow.specs.Views.{doing_of}
use Rattle.wm_pen.specs.declared.stroke.Stroke.{Stroke}
use Rattle.wm_pen.specs.declared.stroke.Stroke.TheVariants as stroke

abbrev pub stroke_of : Stroke → strokes.Stroke
stroke_of (stroke.Point context instance counters temporaries) = strokes.Point context instance counters temporaries
stroke_of (stroke.Line source target action site) = strokes.Line source target (doing_of action) site
stroke_of (stroke.Part instance start) = strokes.Part instance start
stroke_of (stroke.Begins head instance loop_id node) = strokes.Begins head instance loop_id node
stroke_of (stroke.Turns head) = strokes.Turns head

abbrev pub strokes_of : List Stroke → List strokes.Stroke
strokes_of [] = []
strokes_of (stroke ∷ rest) = stroke_of stroke ∷ strokes_of rest
