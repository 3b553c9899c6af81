-- The paths of turns of the loops on a path.
use Rattle.std.specs.Prelude.{ℕ, zero, suc, List, [], ◌∷◌, ◌++◌, Option, Some, None, slice_index_or}
use Rattle.wm_ways.specs.declared.ways.Turning.{Turning}
use Rattle.wm_ways.specs.declared.ways.Way.{Way}
use Rattle.wm_ways.specs.Sweeps.{best_at, swept, ending_at, stretch}
use Rattle.wm_path.specs.declared.choice.Body.{Body}
use Rattle.wm_path.specs.declared.choice.Choice.{Choice}
use Rattle.wm_path.specs.declared.choice.Choice.TheViews.{roll-Choice}
use Rattle.wm_path.specs.Fields.{Field, loop_behind}
use Rattle.wm_path.specs.Picks.{picked}

-- the edges of a loop's body
abbrev pub inside : Field → Turning → List Way
inside field turning = stretch field.ways (slice_index_or field.firsts turning.node 0) turning.back

-- the greatest weights of paths through it to the source of the back edge
abbrev pub table_of : Field → Turning → List (Option ℕ)
table_of field turning = swept turning.node field.added (inside field turning) (ending_at turning.node turning.last)

abbrev pub turn_edges : Field → Turning → List (Option ℕ) → List ℕ
turn_edges field turning best =
    picked turning.node field.added best (ending_at turning.node turning.last) (slice_index_or field.firsts turning.node 0) turning.node (inside field turning)

abbrev pub choice_with : List ℕ → List (Body Choice) → Choice
choice_with edges bodies = roll-Choice (record { edges = edges; bodies = bodies })

abbrev pub body_with : Field → Turning → List ℕ → List (Body Choice) → Body Choice
body_with field turning edges bodies =
    record { head = slice_index_or field.heads turning.node 0; turns = turning.turns; choice = choice_with edges bodies }

-- none where no path leads through the body
abbrev pub body_along : (List ℕ → List (Body Choice)) → Field → Turning → List (Option ℕ) → Option ℕ → Option (Body Choice)
body_along bodies field turning best None = None
body_along bodies field turning best (Some weight) =
    Some (body_with field turning (turn_edges field turning best) (bodies (turn_edges field turning best)))

abbrev pub body_by : (List ℕ → List (Body Choice)) → Field → Turning → List (Option ℕ) → Option (Body Choice)
body_by bodies field turning best = body_along bodies field turning best (best_at turning.node best turning.node)

abbrev pub made : Option (Body Choice) → List (Body Choice)
made None = []
made (Some body) = body ∷ []

abbrev pub at_loop : (Turning → Option (Body Choice)) → Option Turning → List (Body Choice)
at_loop body None = []
at_loop body (Some turning) = made (body turning)

-- a body for each edge that leads to the head of a loop
abbrev pub bodies_by : (Turning → Option (Body Choice)) → Field → List ℕ → List (Body Choice)
bodies_by body field [] = []
bodies_by body field (number ∷ rest) = at_loop body (loop_behind field number) ++ bodies_by body field rest

abbrev pub turn_of : (List ℕ → List (Body Choice)) → Field → Turning → Option (Body Choice)
turn_of bodies field turning = body_by bodies field turning (table_of field turning)

-- The paths of the loops to which a path of these edges comes. Loops stand at most so many levels inside one another.
unfoldable pub bodies_of : (levels : ℕ) → Field → List ℕ → List (Body Choice)
bodies_of zero field edges = []
bodies_of (suc levels) field edges = bodies_by (turn_of (bodies_of levels field) field) field edges

-- the path of a turn of a loop
unfoldable pub body_of : (levels : ℕ) → Field → Turning → Option (Body Choice)
body_of levels field turning = turn_of (bodies_of levels field) field turning
