-- The worst choice of a frame: of the paths of greatest weight the first in the order of lists of edges.
use Rattle.std.specs.Prelude.{ℕ, Bool, true, List, [], drop, length, Option, Some, None, slice_get, slice_set, slice_index_or}
use Rattle.wm_flow.specs.declared.graph.Bound.{Bound}
use Rattle.wm_flow.specs.declared.graph.Bound.TheVariants.{At, NoTrips, TooLarge}
use Rattle.wm_flow.specs.declared.graph.Facts.{Facts}
use Rattle.wm_flow.specs.declared.graph.Graph.{Graph}
use Rattle.wm_flow.specs.declared.graph.Head.{Head}
use Rattle.wm_cost.specs.Bounds.{frame_bound}
use Rattle.wm_cost.specs.Turnings.{source_at}
use Rattle.wm_ways.specs.Sweeps.{swept, ending_in}
use Rattle.wm_path.specs.declared.choice.Choice.{Choice}
use Rattle.wm_path.specs.Bodies.{choice_with, bodies_of}
use Rattle.wm_path.specs.Fields.{Field, field_of}
use Rattle.wm_path.specs.Picks.{picked}

-- the greatest weights of paths from nodes on to the ends
unfoldable pub onward_table : Field → List Bool → (start : ℕ) → List (Option ℕ)
onward_table field ends start =
    swept start field.added (drop (slice_index_or field.firsts start 0) field.ways) (ending_in (drop start ends))

unfoldable pub onward_edges : Field → List Bool → (start : ℕ) → List ℕ
onward_edges field ends start =
    picked start field.added (onward_table field ends start) (ending_in (drop start ends)) (slice_index_or field.firsts start 0) start (drop (slice_index_or field.firsts start 0) field.ways)

abbrev pub choice_of : Field → List Bool → List ℕ → Choice
choice_of field ends edges = choice_with edges (bodies_of (length ends) field edges)

unfoldable pub choice_from : Field → List Bool → (start : ℕ) → Choice
choice_from field ends start = choice_of field ends (onward_edges field ends start)

-- the frame's end is the source of the frame head's back edge
abbrev pub ends_of : Graph → List Bool → Head → List Bool
ends_of graph stops head = slice_set stops (source_at graph.edges head.back) true

unfoldable pub choice_at : Graph → (weights : List (Option ℕ)) → Facts → Head → Choice
choice_at graph weights facts head =
    choice_from (field_of graph weights facts.turns facts.live (length facts.stops)) (ends_of graph facts.stops head) head.node

-- the first head is the frame head
abbrev pub choice_behind : Graph → (weights : List (Option ℕ)) → Facts → Option Head → Choice
choice_behind graph weights facts None = choice_with [] []
choice_behind graph weights facts (Some head) = choice_at graph weights facts head

abbrev pub with_bound : Graph → (weights : List (Option ℕ)) → Facts → Bound → Option Choice
with_bound graph weights facts (At weight) = Some (choice_behind graph weights facts (slice_get graph.heads 0))
with_bound graph weights facts (NoTrips loop_id) = None
with_bound graph weights facts TooLarge = None

-- There is one exactly where the bound is a number.
abbrev pub worst_path : Graph → (weights : List (Option ℕ)) → Facts → Option Choice
worst_path graph weights facts =
    with_bound graph weights facts (frame_bound graph weights facts.turns facts.live facts.stops)
