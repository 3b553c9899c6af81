-- Where a variable or an array stands at a node. The variables are the group, namely the first 8 state scalars, the first
-- 12 scalars of the instance's function, the counters of the open loops and the sum counters of the innermost one, and
-- then the singles, namely the other state scalars, the input scalars, Overflow, the other scalars of the function and the
-- temporaries in use. The arrays are those of static storage that are not const, and then the automatic ones of the
-- instances from the root to this one.
use Rattle.std.specs.Prelude.{ℕ, zero, suc, ◌+◌, ◌-◌, min, Bool, ◌||◌, ◌&&◌, not, if◌then◌else◌, ◌==◌, nat_lt, List, [], ◌∷◌, ◌++◌, length, ℤ, pos, Option, Some, None, slice_index_or}
use Rattle.std.specs.Option.{option_map_or}
use Rattle.wm_domain.specs.declared.form.Term.{Term}
use Rattle.wm_program.specs.declared.program.Root.{Root}
use Rattle.wm_program.specs.declared.program.Root.TheVariants as root
use Rattle.wm_program.specs.declared.tree.Scalar.{Scalar}
use Rattle.wm_program.specs.declared.tree.Scalar.TheVariants as scalar
use Rattle.wm_program.specs.declared.tree.Array.{Array}
use Rattle.wm_program.specs.declared.tree.Array.TheVariants as array
use Rattle.wm_program.specs.Code.{Code, function_of, roots_of}
use Rattle.wm_program.specs.State.{Here, root_of}
use Rattle.wm_flow.specs.declared.graph.Sum.{Sum}
use Rattle.wm_flow.specs.declared.kept.Kept.{Kept}
use Rattle.wm_flow.specs.declared.scene.Scene.{Scene}
use Rattle.wm_flow.specs.declared.scene.Bases.{Bases}
use Rattle.wm_flow.specs.declared.scene.Source.{Source}
use Rattle.wm_flow.specs.declared.scene.Source.TheVariants.{Variable, Cells, Fixed}
use Rattle.wm_flow.specs.declared.seats.Seat.{Seat}
use Rattle.wm_flow.specs.declared.seats.Seat.TheVariants as seat
use Rattle.wm_flow.specs.declared.seats.LocalSeat.{LocalSeat}
use Rattle.wm_flow.specs.declared.seats.LocalSeat.TheVariants as local_seat
use Rattle.wm_flow.specs.declared.seats.Counts.{Counts}
use Rattle.wm_flow.specs.declared.seats.LocalCounts.{LocalCounts}
use Rattle.wm_flow.specs.declared.seats.Tables.{Tables}
use Rattle.wm_flow.specs.Seats.{counts_in}
use Rattle.wm_flow.specs.Kept.{is_below, any_term, variable, constant}

-- What is the same for all nodes of a program: the program, where things stand in it, the sum counters of each head, and
-- how many nodes each instance has.
pub record Plan : Type 0 where
  pub code : Code
  pub tables : Tables
  pub sums : List (List Sum)
  pub sizes : List ℕ

-- the number of the head of a loop in an instance
abbrev pub head_of : Tables → ℕ → ℕ → ℕ
head_of tables instance loop = slice_index_or tables.first_heads instance 0 + slice_index_or tables.ranks loop 0

-- the sum counters of a head, by their variables
abbrev pub sums_at : List Sum → ℕ → List Sum
sums_at [] head = []
sums_at (sum ∷ rest) head = if sum.head == head then sum ∷ sums_at rest head else sums_at rest head

-- those of the first so many heads
abbrev pub sum_rows : (heads : ℕ) → List Sum → List (List Sum)
sum_rows zero sums = []
sum_rows (suc head) sums = sum_rows head sums ++ sums_at sums head ∷ []

abbrev pub sums_in : Plan → ℕ → Option ℕ → List Sum
sums_in plan instance inner =
    option_map_or (λ loop. slice_index_or plan.sums (head_of plan.tables instance loop) []) inner []

-- how many of a kind stand in the group, and how many behind it
abbrev pub related_states : Counts → ℕ
related_states counts = min 8 counts.states

abbrev pub other_states : Counts → ℕ
other_states counts = counts.states - 8

abbrev pub related_scalars : LocalCounts → ℕ
related_scalars counts = min 12 counts.scalars

abbrev pub other_scalars : LocalCounts → ℕ
other_scalars counts = counts.scalars - 12

-- what the numbers of a node's variables rest on
unfoldable pub bases_of : Plan → Scene → Bases
bases_of plan scene =
    record {
      counts = plan.tables.counts;
      locals = counts_in plan.tables.local_counts scene.function;
      loops = scene.depth;
      sums = length (sums_in plan scene.instance scene.inner);
    }

abbrev pub first_counter : Bases → ℕ
first_counter bases = related_states bases.counts + related_scalars bases.locals

-- the counter of the innermost loop
abbrev pub counter : Bases → ℕ
counter bases = first_counter bases + (bases.loops - 1)

abbrev pub first_sum : Bases → ℕ
first_sum bases = first_counter bases + bases.loops

-- how many variables the group has
abbrev pub group_size : Bases → ℕ
group_size bases = first_sum bases + bases.sums

abbrev pub state_place : Bases → ℕ → ℕ
state_place bases k = if nat_lt k 8 then k else group_size bases + (k - 8)

abbrev pub first_input : Bases → ℕ
first_input bases = group_size bases + other_states bases.counts

abbrev pub input_place : Bases → ℕ → ℕ
input_place bases k = first_input bases + k

-- the variable Overflow
abbrev pub overflow_place : Bases → ℕ
overflow_place bases = first_input bases + bases.counts.inputs

abbrev pub scalar_place : Bases → ℕ → ℕ
scalar_place bases k =
    if nat_lt k 12 then related_states bases.counts + k else suc (overflow_place bases) + (k - 12)

abbrev pub first_temporary : Bases → ℕ
first_temporary bases = suc (overflow_place bases) + other_scalars bases.locals

abbrev pub temporary : Bases → ℕ → ℕ
temporary bases k = first_temporary bases + k

-- ---- what a name stands for: a variable, an array, or a const object with the ends of its values

abbrev pub seat_at : Tables → ℕ → Seat
seat_at tables object = slice_index_or tables.objects object (seat.Constant (pos 0) (pos 0))

abbrev pub local_seat_at : Tables → (function local : ℕ) → LocalSeat
local_seat_at tables function local = slice_index_or (slice_index_or tables.locals function []) local (local_seat.Scalar 0)

abbrev pub seat_source : Bases → Seat → Source
seat_source bases (seat.State k) = Variable (state_place bases k)
seat_source bases (seat.Input k) = Variable (input_place bases k)
seat_source bases (seat.Array k) = Cells k
seat_source bases (seat.Constant low high) = Fixed low high

abbrev pub local_source : Bases → (above : ℕ) → LocalSeat → Source
local_source bases above (local_seat.Scalar k) = Variable (scalar_place bases k)
local_source bases above (local_seat.Array k) = Cells (above + k)

abbrev pub above_at : Tables → ℕ → ℕ
above_at tables instance = slice_index_or tables.above instance 0

unfoldable pub root_source : Plan → Bases → Root → Source
root_source plan bases (root.Object object) = seat_source bases (seat_at plan.tables object)
root_source plan bases (root.Local instance local) =
    local_source bases (above_at plan.tables instance) (local_seat_at plan.tables (function_of plan.code instance) local)

unfoldable pub scalar_source : Plan → Scene → Scalar → Source
scalar_source plan scene scalar.Overflow = Variable (overflow_place (bases_of plan scene))
scalar_source plan scene (scalar.Object object) = root_source plan (bases_of plan scene) (root.Object object)
scalar_source plan scene (scalar.Local local) = root_source plan (bases_of plan scene) (root.Local scene.instance local)

abbrev pub here_of : Plan → Scene → Here
here_of plan scene = record { instance = scene.instance; roots = roots_of plan.code scene.instance }

unfoldable pub array_source : Plan → Scene → Array → Source
array_source plan scene array = root_source plan (bases_of plan scene) (root_of (here_of plan scene) array)

-- where an array begins in its root: 0, or the offset of a view
abbrev pub source_value : Source → Kept
source_value (Variable v) = variable v
source_value (Cells a) = constant (pos 0)
source_value (Fixed low high) = constant (pos 0)

unfoldable pub offset_of : Plan → Scene → Array → Kept
offset_of plan scene (array.Object object) = constant (pos 0)
offset_of plan scene (array.Local local) = constant (pos 0)
offset_of plan scene (array.View local number) = source_value (scalar_source plan scene (scalar.Local local))

-- ---- forms at a node

-- a scalar of static storage, Overflow among them
abbrev pub is_static : Bases → ℕ → Bool
is_static bases v =
    nat_lt v (related_states bases.counts)
    || not (nat_lt v (group_size bases)) && not (nat_lt (overflow_place bases) v)

abbrev pub has_static : Bases → Kept → Bool
has_static bases = any_term (λ (term : Term). is_static bases term.variable)

abbrev pub has_overflow : Bases → Kept → Bool
has_overflow bases = any_term (λ (term : Term). term.variable == overflow_place bases)

-- made of numbers and variables that have a name
abbrev pub is_named : Bases → Kept → Bool
is_named bases kept = is_below (first_temporary bases) kept
