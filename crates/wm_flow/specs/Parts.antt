-- The nodes and edges of an instance: those of its function's body, with those of what it calls in their places.
use Rattle.std.specs.Prelude.{ℕ, zero, suc, ◌+◌, ◌-◌, if◌then◌else◌, List, [], ◌∷◌, ◌++◌, length, replicate, Option, Some, None, slice_index_or, slice_set}
use Rattle.std.specs.Option.{option_map_or}
use Rattle.wm_program.specs.Code.{Code, routine_at, function_of}
use Rattle.wm_flow.specs.declared.graph.Sum.{Sum}
use Rattle.wm_flow.specs.declared.seats.LocalSeat.{LocalSeat}
use Rattle.wm_flow.specs.declared.seats.LocalSeat.TheVariants as local_seat
use Rattle.wm_flow.specs.declared.seats.Tables.{Tables}
use Rattle.wm_flow.specs.Plain.{Write}
use Rattle.wm_flow.specs.Seats.{tables_of}
use Rattle.wm_flow.specs.Kept.{form_of, variable}
use Rattle.wm_flow.specs.declared.scene.Scene.{Scene}
use Rattle.wm_flow.specs.declared.scene.Bases.{Bases}
use Rattle.wm_flow.specs.Places.{Plan, sum_rows, bases_of, temporary, above_at}
use Rattle.wm_flow.specs.Strokes.{Stroke, Line, point, step, nothing}
use Rattle.wm_flow.specs.Calls.{scene_of, result_size, seats_of, addressed_in}
use Rattle.wm_flow.specs.Statements.{Around, tree_size, tree_strokes}

-- ---- addressed parameters: each is written from its temporary into its array, the last one first

-- the arrays of the first so many locals, the last one first, in front of others
abbrev pub stored_from : List LocalSeat → (count above : ℕ) → List ℕ → List ℕ
stored_from [] count above behind = behind
stored_from (seat ∷ rest) zero above behind = behind
stored_from (local_seat.Scalar k ∷ rest) (suc count) above behind = stored_from rest count above behind
stored_from (local_seat.Array k ∷ rest) (suc count) above behind = stored_from rest count above ((above + k) ∷ behind)

abbrev pub stored_parameters : Plan → Scene → List ℕ
stored_parameters plan scene =
    stored_from (seats_of plan scene.function) (routine_at plan.code scene.function).parameters
    (above_at plan.tables scene.instance) []

-- each array gets the value of the last temporary
abbrev pub storing_from : Plan → Scene → List ℕ → (node : ℕ) → List Stroke
storing_from plan scene [] node = []
storing_from plan scene (array ∷ rest) node =
    step plan scene node (Write array (form_of (variable (temporary (bases_of plan scene) (length rest)))) 1) None (length rest)
    ++ storing_from plan scene rest (suc node)

-- ---- an instance

-- a body leads to its exit, and leaves no block
abbrev pub at_exit : ℕ → Around
at_exit exit = record { stop = exit; again = exit; exit = exit; near = []; far = [] }

-- the exit lies so far behind the first node
unfoldable pub part_size : Plan → (instance : ℕ) → ℕ
part_size plan instance =
    let scene = scene_of plan instance in
    addressed_in plan scene.function
    + tree_size plan (routine_at plan.code scene.function).body scene (at_exit 0) + 1

-- The first node has a temporary for each addressed parameter, the exit one for the result.
unfoldable pub part_strokes : Plan → (instance start : ℕ) → List Stroke
part_strokes plan instance start =
    let scene = scene_of plan instance in
    let body = (routine_at plan.code scene.function).body in
    let first = start + addressed_in plan scene.function in
    let end = first + tree_size plan body scene (at_exit 0) in
    point plan scene (addressed_in plan scene.function)
    ∷ storing_from plan scene (stored_parameters plan scene) start
    ++ tree_strokes plan body scene (at_exit (suc end)) first
    ++ step plan scene end nothing None (result_size plan scene.function)

-- ---- how many nodes each instance has: an instance calls later ones alone, so the last one is looked at first

abbrev pub plan_with : Code → Tables → List (List Sum) → List ℕ → Plan
plan_with code tables sums sizes = record { code = code; tables = tables; sums = sums; sizes = sizes }

-- the sizes, with those of the so many first instances still to come; until then they count 0
abbrev pub sized : Code → Tables → List (List Sum) → (left : ℕ) → List ℕ → List ℕ
sized code tables sums zero sizes = sizes
sized code tables sums (suc left) sizes =
    sized code tables sums left (slice_set sizes left (part_size (plan_with code tables sums sizes) left))

abbrev pub instance_count : Code → ℕ
instance_count code = length code.instances

-- the plan for these tables and sum counters by head
unfoldable pub plan_for : Code → Tables → List (List Sum) → Plan
plan_for code tables sums =
    plan_with code tables sums (sized code tables sums (instance_count code) (replicate (instance_count code) 0))

unfoldable pub plan_of : Code → List Sum → Plan
plan_of code sums = plan_for code (tables_of code) (sum_rows (tables_of code).heads sums)
