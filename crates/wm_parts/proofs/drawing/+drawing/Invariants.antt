-- What is left is drawn behind what has been drawn, as the whole list is.
use Rattle.std.proofs.Common.{◌≡◌, ◌+◌, ◌*◌, length}
use Rattle.std.specs.Vec.Iter.{into_iter_items, into_iter_len}
use Rattle.wm_flow.specs.Graphs.{all_drawn, drawn_part}
use Rattle.wm_places.specs.Seen.{plan_of}
use Rattle.wm_pen.specs.Seen.{strokes_of}
use Rattle.wm_parts.proofs.drawing.+drawing.Given as goal

abbrev pub decreases-stroke : goal.decreases-stroke
decreases-stroke l = 3 * l.levels + 1

abbrev pub decreases-strokes : goal.decreases-strokes
decreases-strokes l = 3 * l.levels + 2

abbrev pub decreases-part : goal.decreases-part
decreases-part l = 3 * l.levels

abbrev pub invariant-strokes-loop-it : goal.invariant-strokes-loop-it
invariant-strokes-loop-it l = record {
  left : all_drawn (plan_of l.plan).code (drawn_part (plan_of l.plan) l.levels) (strokes_of (into_iter_items l.it-iterator)) l.sketch ≡ all_drawn (plan_of l.plan).code (drawn_part (plan_of l.plan) l.levels) (strokes_of l.fn.list.items) l.fn.sketch;
  counted : into_iter_len l.it-iterator ≡ length (into_iter_items l.it-iterator);
}
