-- Where the objects and the locals of a program stand in the shapes of its nodes, each kind counted in the order of
-- declaration.
use Rattle.std.specs.Prelude.{ℕ, zero, suc, ◌+◌, Bool, true, false, not, ◌||◌, if◌then◌else◌, ◌==◌, nat_lt, List, [], ◌∷◌, ◌++◌, map, length, ℤ, pos, Option, Some, None, slice_get, slice_index_or}
use Rattle.std.specs.Int.{int_max, int_min}
use Rattle.std.specs.Option.{option_map_or}
use Rattle.wm_program.specs.declared.program.ObjectInfo.{ObjectInfo}
use Rattle.wm_program.specs.declared.program.LocalInfo.{LocalInfo}
use Rattle.wm_program.specs.declared.program.InstanceInfo.{InstanceInfo}
use Rattle.wm_program.specs.declared.program.LoopInfo.{LoopInfo}
use Rattle.wm_program.specs.Code.{Code, Routine}
use Rattle.wm_flow.specs.declared.seats.Seat.{Seat}
use Rattle.wm_flow.specs.declared.seats.Seat.TheVariants as seat
use Rattle.wm_flow.specs.declared.seats.LocalSeat.{LocalSeat}
use Rattle.wm_flow.specs.declared.seats.LocalSeat.TheVariants as local_seat
use Rattle.wm_flow.specs.declared.seats.Counts.{Counts}
use Rattle.wm_flow.specs.declared.seats.LocalCounts.{LocalCounts}
use Rattle.wm_flow.specs.declared.seats.Tables.{Tables}

-- ---- the values of a const object

-- the least and the greatest of z and some numbers
abbrev pub least_of : ℤ → List ℤ → ℤ
least_of z [] = z
least_of z (y ∷ rest) = least_of (int_min z y) rest

abbrev pub greatest_of : ℤ → List ℤ → ℤ
greatest_of z [] = z
greatest_of z (y ∷ rest) = greatest_of (int_max z y) rest

-- a number that is among the cells of an array of this length: 0 where cells stand behind the values
abbrev pub some_value : ℕ → List ℤ → ℤ
some_value count [] = pos 0
some_value count (z ∷ rest) = if nat_lt (suc (length rest)) count then pos 0 else z

abbrev pub low_of : ℕ → List ℤ → ℤ
low_of count values = least_of (some_value count values) values

abbrev pub high_of : ℕ → List ℤ → ℤ
high_of count values = greatest_of (some_value count values) values

-- ---- objects

-- an array, or a scalar that is kept as one since its address is taken
abbrev pub is_stored : ObjectInfo → Bool
is_stored object = not object.scalar || object.addressed

unfoldable pub seat_of : Counts → ObjectInfo → Seat
seat_of before object =
    if object.constant then seat.Constant (low_of object.length object.initial) (high_of object.length object.initial)
    else if is_stored object then seat.Array before.arrays
    else if object.input then seat.Input before.inputs
    else seat.State before.states

-- the counts with one more of the object's kind
abbrev pub counting_seat : Counts → Seat → Counts
counting_seat before (seat.State k) = record before { states = suc before.states }
counting_seat before (seat.Input k) = record before { inputs = suc before.inputs }
counting_seat before (seat.Array k) = record before { arrays = suc before.arrays }
counting_seat before (seat.Constant low high) = before

abbrev pub counting : Counts → ObjectInfo → Counts
counting before object = counting_seat before (seat_of before object)

abbrev pub seats_from : Counts → List ObjectInfo → List Seat
seats_from before [] = []
seats_from before (object ∷ rest) = seat_of before object ∷ seats_from (counting before object) rest

abbrev pub counts_from : Counts → List ObjectInfo → Counts
counts_from before [] = before
counts_from before (object ∷ rest) = counts_from (counting before object) rest

abbrev pub no_counts : Counts
no_counts = record { states = 0; inputs = 0; arrays = 0 }

-- ---- locals

abbrev pub is_array : LocalInfo → Bool
is_array local = local.addressed || option_map_or (λ count. true) local.array false

unfoldable pub local_seat_of : LocalCounts → LocalInfo → LocalSeat
local_seat_of before local =
    if is_array local then local_seat.Array before.arrays else local_seat.Scalar before.scalars

abbrev pub counting_local_seat : LocalCounts → LocalSeat → LocalCounts
counting_local_seat before (local_seat.Scalar k) = record before { scalars = suc before.scalars }
counting_local_seat before (local_seat.Array k) = record before { arrays = suc before.arrays }

abbrev pub counting_local : LocalCounts → LocalInfo → LocalCounts
counting_local before local = counting_local_seat before (local_seat_of before local)

abbrev pub local_seats_from : LocalCounts → List LocalInfo → List LocalSeat
local_seats_from before [] = []
local_seats_from before (local ∷ rest) = local_seat_of before local ∷ local_seats_from (counting_local before local) rest

abbrev pub local_counts_from : LocalCounts → List LocalInfo → LocalCounts
local_counts_from before [] = before
local_counts_from before (local ∷ rest) = local_counts_from (counting_local before local) rest

abbrev pub no_local_counts : LocalCounts
no_local_counts = record { scalars = 0; arrays = 0 }

-- ---- instances: an instance has the arrays of its caller, which stands before it, and then those of its caller's
-- function

abbrev pub counts_in : List LocalCounts → ℕ → LocalCounts
counts_in counts function = slice_index_or counts function no_local_counts

-- how many arrays a caller and those above it have
abbrev pub arrays_through : List LocalCounts → List InstanceInfo → List ℕ → ℕ → ℕ
arrays_through counts instances above caller =
    slice_index_or above caller 0
    + (counts_in counts (option_map_or (λ it. it.function) (slice_get instances caller) 0)).arrays

abbrev pub above_of : ℕ → List LocalCounts → List InstanceInfo → List ℕ → InstanceInfo → ℕ
above_of statics counts instances above info = option_map_or (arrays_through counts instances above) info.caller statics

-- the numbers for instances behind those whose numbers are known
abbrev pub above_from : ℕ → List LocalCounts → List InstanceInfo → List ℕ → List InstanceInfo → List ℕ
above_from statics counts instances known [] = known
above_from statics counts instances known (info ∷ rest) =
    above_from statics counts instances (known ++ above_of statics counts instances known info ∷ []) rest

-- ---- loops and heads: the frame head is number 0, then the loops of each instance stand in the order of the source

abbrev pub loops_in : List LoopInfo → ℕ → ℕ
loops_in [] function = 0
loops_in (it ∷ rest) function = if it.function == function then suc (loops_in rest function) else loops_in rest function

-- the loops stand by function, in the order of the source: a loop is the first of its function where the loop before it
-- is of another one
abbrev pub rank_after : (before next function : ℕ) → ℕ
rank_after before next function = if before == function then next else 0

-- the ranks of loops behind one of a function, the next rank of that function being known
abbrev pub ranks_from : (before next : ℕ) → List LoopInfo → List ℕ
ranks_from before next [] = []
ranks_from before next (it ∷ rest) =
    rank_after before next it.function ∷ ranks_from it.function (suc (rank_after before next it.function)) rest

abbrev pub heads_from : List ℕ → ℕ → List InstanceInfo → List ℕ
heads_from counts next [] = []
heads_from counts next (info ∷ rest) =
    next ∷ heads_from counts (next + slice_index_or counts info.function 0) rest

abbrev pub heads_behind : List ℕ → ℕ → List InstanceInfo → ℕ
heads_behind counts next [] = next
heads_behind counts next (info ∷ rest) = heads_behind counts (next + slice_index_or counts info.function 0) rest

-- how many loops each function has, with those of a list behind those that were counted
abbrev pub loop_counts : List Routine → List LoopInfo → ℕ → List ℕ
loop_counts [] loops function = []
loop_counts (routine ∷ rest) loops function = loops_in loops function ∷ loop_counts rest loops (suc function)

-- ---- all of it

unfoldable pub tables_of : Code → Tables
tables_of code =
    let counts = counts_from no_counts code.objects in
    let local_counts = map (λ (routine : Routine). local_counts_from no_local_counts routine.locals) code.routines in
    let loops = loop_counts code.routines code.loops 0 in
    record {
      objects = seats_from no_counts code.objects;
      counts = counts;
      locals = map (λ (routine : Routine). local_seats_from no_local_counts routine.locals) code.routines;
      local_counts = local_counts;
      above = above_from counts.arrays local_counts code.instances [] code.instances;
      first_heads = heads_from loops 1 code.instances;
      ranks = ranks_from 0 0 code.loops;
      heads = heads_behind loops 1 code.instances;
    }
