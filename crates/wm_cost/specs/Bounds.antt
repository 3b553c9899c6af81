-- What a frame counts at most.
use Rattle.std.specs.Prelude.{ℕ, Bool, true, if◌then◌else◌, nat_le, List, Option, Some, None, slice_get, slice_set}
use Rattle.wm_flow.specs.declared.graph.Bound.{Bound}
use Rattle.wm_flow.specs.declared.graph.Bound.TheVariants.{At, NoTrips, TooLarge}
use Rattle.wm_flow.specs.declared.graph.Head.{Head}
use Rattle.wm_flow.specs.declared.graph.Graph.{Graph}
use Rattle.wm_ways.specs.Whole.{greatest_weight}
use Rattle.wm_cost.specs.Edges.{ways_from}
use Rattle.wm_cost.specs.Turnings.{source_at, turnings_from}
use Rattle.wm_cost.specs.Endless.{endless_from}

abbrev pub told : ℕ → Bound
told weight = if nat_le weight 1000000000000000 then At weight else TooLarge

-- The greatest weight of a path of live edges from the frame head to the frame's end, which is the source of the frame
-- head's back edge, or to a node that stops.
unfoldable pub weight_from : Graph → (weights turns : List (Option ℕ)) → (live stops : List Bool) → Head → ℕ
weight_from graph weights turns live stops head =
    greatest_weight (ways_from weights live 0 graph.edges) (turnings_from graph.edges turns 0 graph.heads) (slice_set stops (source_at graph.edges head.back) true) head.node

abbrev pub bound_with : (endless : Option ℕ) → ℕ → Bound
bound_with (Some loop_id) weight = NoTrips loop_id
bound_with None weight = told weight

unfoldable pub bound_from : Graph → (weights turns : List (Option ℕ)) → (live stops : List Bool) → Head → Bound
bound_from graph weights turns live stops head =
    bound_with (endless_from head.node turns live 0 graph.heads None) (weight_from graph weights turns live stops head)

abbrev pub bound_at : Graph → (weights turns : List (Option ℕ)) → (live stops : List Bool) → Option Head → Bound
bound_at graph weights turns live stops None = At 0
bound_at graph weights turns live stops (Some head) = bound_from graph weights turns live stops head

-- The first head is the frame head. A word without a weight weighs nothing.
abbrev pub frame_bound : Graph → (weights turns : List (Option ℕ)) → (live stops : List Bool) → Bound
frame_bound graph weights turns live stops = bound_at graph weights turns live stops (slice_get graph.heads 0)
