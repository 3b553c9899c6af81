-- The edges on which a call begins and ends. The callee has the static variables and the arrays of its caller; its
-- parameters have their arguments, and its other locals any number. At the return the static variables and all arrays are
-- those of the exit, and the caller's locals, counters and temporaries those of the call.
use Rattle.std.specs.Prelude.{ℕ, zero, suc, ◌+◌, ◌-◌, Bool, true, false, if◌then◌else◌, List, [], ◌∷◌, ◌++◌, map, length, replicate, Option, Some, None, slice_index_or, slice_get}
use Rattle.std.specs.Option.{option_map_or}
use Rattle.wm_program.specs.Code.{Code, Routine, routine_at, function_of}
use Rattle.wm_flow.specs.declared.action.Argument.{Argument}
use Rattle.wm_flow.specs.declared.action.Returned.{Returned}
use Rattle.wm_flow.specs.declared.kept.Kept.{Kept}
use Rattle.wm_flow.specs.declared.seats.Counts.{Counts}
use Rattle.wm_flow.specs.declared.seats.LocalCounts.{LocalCounts}
use Rattle.wm_flow.specs.declared.seats.LocalSeat.{LocalSeat}
use Rattle.wm_flow.specs.declared.seats.LocalSeat.TheVariants as local_seat
use Rattle.wm_flow.specs.declared.seats.Tables.{Tables}
use Rattle.wm_flow.specs.Plain.{Doing, Enter, Leave}
use Rattle.wm_flow.specs.Kept.{form_of, constant, variable}
use Rattle.wm_flow.specs.declared.scene.Scene.{Scene}
use Rattle.wm_flow.specs.declared.scene.Bases.{Bases}
use Rattle.wm_flow.specs.Places.{Plan, bases_of, state_place, input_place, overflow_place, scalar_place, first_counter, group_size, first_input, temporary, related_states, other_states, related_scalars, other_scalars, local_seat_at, above_at}

-- where an instance begins: no loop is open
abbrev pub scene_of : Plan → ℕ → Scene
scene_of plan instance =
    record { instance = instance; function = function_of plan.code instance; depth = 0; inner = None }

abbrev pub result_of : Plan → ℕ → Bool
result_of plan function = option_map_or (λ width. true) (routine_at plan.code function).result false

-- one temporary at the exit for the result, where there is one
abbrev pub result_size : Plan → ℕ → ℕ
result_size plan function = if result_of plan function then 1 else 0

-- how many parameters are kept as arrays, since their addresses are taken
abbrev pub addressed_among : List LocalSeat → ℕ → ℕ
addressed_among [] count = 0
addressed_among (seat ∷ rest) zero = 0
addressed_among (local_seat.Scalar k ∷ rest) (suc count) = addressed_among rest count
addressed_among (local_seat.Array k ∷ rest) (suc count) = suc (addressed_among rest count)

abbrev pub seats_of : Plan → ℕ → List LocalSeat
seats_of plan function = slice_index_or plan.tables.locals function []

abbrev pub addressed_in : Plan → ℕ → ℕ
addressed_in plan function = addressed_among (seats_of plan function) (routine_at plan.code function).parameters

-- ---- static variables and arrays

-- places one after another
abbrev pub places_from : (first count : ℕ) → List (Option ℕ)
places_from first zero = []
places_from first (suc count) = Some first ∷ places_from (suc first) count

abbrev pub none_for : ℕ → List (Option ℕ)
none_for count = replicate count None

-- the state scalars behind the first 8, the inputs and Overflow, of a node whose group has this size
abbrev pub static_singles : Counts → (size : ℕ) → List (Option ℕ)
static_singles counts size = places_from size (other_states counts + counts.inputs + 1)

-- the arrays of an instance
abbrev pub array_count : Plan → ℕ → ℕ
array_count plan instance =
    above_at plan.tables instance + (bases_of plan (scene_of plan instance)).locals.arrays

-- ---- the call

-- the parameters with their arguments; an addressed one has its argument in a temporary
abbrev pub arguments_from : Bases → List LocalSeat → List Kept → (temporaries : ℕ) → List Argument
arguments_from bases [] values temporaries = []
arguments_from bases (seat ∷ seats) [] temporaries = []
arguments_from bases (local_seat.Scalar k ∷ seats) (kept ∷ values) temporaries =
    record { parameter = scalar_place bases k; form = form_of kept } ∷ arguments_from bases seats values temporaries
arguments_from bases (local_seat.Array k ∷ seats) (kept ∷ values) temporaries =
    record { parameter = temporary bases temporaries; form = form_of kept }
    ∷ arguments_from bases seats values (suc temporaries)

-- the variables of the first node of an instance that is entered from a node whose group has this size; its own locals
-- come from nowhere
unfoldable pub entry_picks : Plan → (instance : ℕ) → (size : ℕ) → List (Option ℕ)
entry_picks plan instance size =
    let bases = bases_of plan (scene_of plan instance) in
    places_from 0 (related_states bases.counts) ++ none_for (related_scalars bases.locals)
    ++ static_singles bases.counts size ++ none_for (other_scalars bases.locals)
    ++ none_for (addressed_in plan (function_of plan.code instance))

unfoldable pub entry_arrays : Plan → (instance : ℕ) → List (Option ℕ)
entry_arrays plan instance =
    places_from 0 (above_at plan.tables instance) ++ none_for (bases_of plan (scene_of plan instance)).locals.arrays

-- the call of an instance with these arguments
unfoldable pub enter : Plan → Scene → (instance : ℕ) → List Kept → Doing
enter plan scene instance values =
    Enter (entry_picks plan instance (group_size (bases_of plan scene))) (entry_arrays plan instance)
    (arguments_from (bases_of plan (scene_of plan instance)) (seats_of plan (function_of plan.code instance)) values 0)

-- ---- the return

-- the caller's own variables, its temporaries through this number among them
unfoldable pub from_call : Bases → (temporaries results : ℕ) → List (Option ℕ)
from_call bases temporaries results =
    none_for (related_states bases.counts)
    ++ places_from (related_states bases.counts) (related_scalars bases.locals + bases.loops + bases.sums)
    ++ none_for (other_states bases.counts + bases.counts.inputs + 1)
    ++ places_from (suc (overflow_place bases)) (other_scalars bases.locals + temporaries)
    ++ none_for results

-- the static variables, from an exit whose group has this size
unfoldable pub from_exit : Bases → (size : ℕ) → (temporaries results : ℕ) → List (Option ℕ)
from_exit bases size temporaries results =
    places_from 0 (related_states bases.counts) ++ none_for (related_scalars bases.locals + bases.loops + bases.sums)
    ++ static_singles bases.counts size ++ none_for (other_scalars bases.locals + temporaries + results)

unfoldable pub returned : Plan → Scene → (instance temporaries : ℕ) → Option Returned
returned plan scene instance temporaries =
    if result_of plan (function_of plan.code instance)
    then Some (record { at_exit = temporary (bases_of plan (scene_of plan instance)) 0; target = temporary (bases_of plan scene) temporaries })
    else None

-- the return from an instance to a call's node, over so many temporaries that stay
unfoldable pub leave : Plan → Scene → (instance call temporaries : ℕ) → Doing
leave plan scene instance call temporaries =
    let bases = bases_of plan scene in
    let results = result_size plan (function_of plan.code instance) in
    Leave call (from_call bases temporaries results)
    (from_exit bases (group_size (bases_of plan (scene_of plan instance))) temporaries results)
    (places_from 0 (array_count plan scene.instance)) (returned plan scene instance temporaries)

-- ---- the frame head: it has the static variables without the inputs, and the static arrays

-- from a node whose group has this size; `inputs` stand there between the other state scalars and Overflow
unfoldable pub head_picks : Counts → (size inputs : ℕ) → List (Option ℕ)
head_picks counts size inputs =
    places_from 0 (related_states counts) ++ places_from size (other_states counts)
    ++ Some (size + other_states counts + inputs) ∷ []

-- to the frame head from the exit of an instance
unfoldable pub to_head : Plan → (instance : ℕ) → Doing
to_head plan instance =
    Enter (head_picks plan.tables.counts (group_size (bases_of plan (scene_of plan instance))) plan.tables.counts.inputs)
    (places_from 0 plan.tables.counts.arrays) []

-- to the frame head from a node of its shape, where a run without init starts
unfoldable pub to_head_from_start : Plan → Doing
to_head_from_start plan =
    Enter (head_picks plan.tables.counts (related_states plan.tables.counts) 0) (places_from 0 plan.tables.counts.arrays) []

-- from the frame head to the first node of the frame function; the inputs are not there
unfoldable pub from_head : Plan → (instance : ℕ) → Doing
from_head plan instance =
    let bases = bases_of plan (scene_of plan instance) in
    Enter
    (places_from 0 (related_states bases.counts) ++ none_for (related_scalars bases.locals)
    ++ places_from (related_states bases.counts) (other_states bases.counts) ++ none_for bases.counts.inputs
    ++ Some bases.counts.states ∷ none_for (other_scalars bases.locals))
    (entry_arrays plan instance) []
