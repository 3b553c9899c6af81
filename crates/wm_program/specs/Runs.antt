-- What a program does: calls of its functions, and runs over lists of frames.
use Rattle.std.specs.Prelude.{ℕ, zero, suc, ◌+◌, Bool, ◌&&◌, if◌then◌else◌, List, [], ◌∷◌, map, length, replicate, take, drop, ℤ, pos, Option, Some, None, slice_set, ◌==◌}
use Rattle.std.specs.Option.{option_map_or}
use Rattle.wm_ops.specs.declared.words.Counted.{Counted}
use Rattle.wm_program.specs.declared.program.ObjectInfo.{ObjectInfo}
use Rattle.wm_program.specs.declared.program.LocalInfo.{LocalInfo}
use Rattle.wm_program.specs.declared.program.Root.TheVariants as root
use Rattle.wm_program.specs.declared.results.Cause.{Cause}
use Rattle.wm_program.specs.declared.results.Cause.TheVariants.{Saturates, Domain, Index, Arithmetic, Narrowing, Unset}
use Rattle.wm_program.specs.declared.results.End.{End}
use Rattle.wm_program.specs.declared.results.End.TheVariants.{Ended, StepLimit}
use Rattle.wm_program.specs.declared.results.Event.{Event}
use Rattle.wm_program.specs.declared.results.FrameResult.{FrameResult}
use Rattle.wm_program.specs.Code.{Code, Input, Routine, routine_at, function_of, length_of, cells_in}
use Rattle.wm_program.specs.State.{State, Cells, Here, Note, Counts, Evaluated, Failed, Entered, Turned, with_cells}
use Rattle.wm_program.specs.Outcomes.{Got, Gives, Halts, then_get, back}
use Rattle.wm_program.specs.Execution.{Calls, exec, listed}

-- ---- calls

-- the cells of the locals as a call begins: each parameter has the number of its argument, all others are unset
abbrev pub fresh_cells : List LocalInfo → List ℤ → List Cells
fresh_cells [] args = []
fresh_cells (local ∷ locals) [] = replicate (cells_in local) None ∷ fresh_cells locals []
fresh_cells (local ∷ locals) (z ∷ args) = (Some z ∷ []) ∷ fresh_cells locals args

abbrev pub entered : Here → Routine → List ℤ → State → State
entered here routine args s = record s { locals = slice_set s.locals here.instance (fresh_cells routine.locals args) }

-- A call of a function. Each call inside it is one level less: a chain of calls has at most as many levels as there
-- are instances, since no function reaches itself.
unfoldable pub call_at : Code → (levels : ℕ) → Calls
call_at code zero function here args s = Halts StepLimit s
call_at code (suc levels) function here args s =
    back (exec (length_of code) (call_at code levels) here (routine_at code function).body
    (entered here (routine_at code function) args s))

-- the function of an instance without parameters: that of init or of a frame
abbrev pub call_root : Code → ℕ → State → Got ℤ
call_root code instance s =
    call_at code (length code.instances) (function_of code instance) (record { instance = instance; roots = [] }) [] s

-- ---- frames

abbrev pub initial_cells : ObjectInfo → Cells
initial_cells object = listed object.length object.initial

-- the static values, with Overflow 0
abbrev pub initial : Code → List ℤ → State
initial code fill =
    record {
      objects = map initial_cells code.objects;
      locals = replicate (length code.instances) [];
      overflow = pos 0;
      fill = fill;
      steps = 0;
      log = [];
    }

-- a frame begins: so many elementary steps, and nothing noted
abbrev pub begun : ℕ → State → State
begun steps s = record s { steps = steps; log = [] }

abbrev pub object_length : Code → Input → ℕ
object_length code input = length_of code (root.Object input.object)

-- the inputs are stored, each taking as many numbers as it has cells
abbrev pub with_inputs : Code → List Input → List ℤ → State → State
with_inputs code [] values s = s
with_inputs code (input ∷ inputs) values s =
    with_inputs code inputs (drop (object_length code input) values)
    (with_cells (root.Object input.object) (map Some (take (object_length code input) values)) s)

-- a frame: its inputs, and the elementary steps that it may make
pub record Frame : Type 0 where
  pub values : List ℤ
  pub steps : ℕ

abbrev pub run_init : Code → ℕ → State → Got ℤ
run_init code steps s = option_map_or (λ instance. call_root code instance (begun steps s)) code.init (Gives (pos 0) (begun steps s))

abbrev pub run_frame : Code → Frame → State → Got ℤ
run_frame code frame s = call_root code code.frame (with_inputs code code.inputs frame.values (begun frame.steps s))

-- ---- results

-- the weight of a word; one without a weight counts nothing
abbrev pub weight_in : (Counted → Option ℕ) → Counted → ℕ
weight_in weights word = option_map_or (λ weight. weight) (weights word) 0

unfoldable pub count_of : (Counted → Option ℕ) → List Note → ℕ
count_of weights [] = 0
count_of weights (Counts word ∷ rest) = weight_in weights word + count_of weights rest
count_of weights (Evaluated site ∷ rest) = count_of weights rest
count_of weights (Failed site cause ∷ rest) = count_of weights rest
count_of weights (Entered loop ∷ rest) = count_of weights rest
count_of weights (Turned loop turns ∷ rest) = count_of weights rest

abbrev pub cause_number : Cause → ℕ
cause_number Saturates = 0
cause_number Domain = 1
cause_number Index = 2
cause_number Arithmetic = 3
cause_number Narrowing = 4
cause_number Unset = 5

abbrev pub is_same : ℕ → Cause → Event → Bool
is_same site cause event = event.site == site && cause_number event.cause == cause_number cause

-- one more failure, with those of its site and cause
abbrev pub with_event : ℕ → Cause → List Event → List Event
with_event site cause [] = record { site = site; cause = cause; times = 1 } ∷ []
with_event site cause (event ∷ events) =
    if is_same site cause event
    then record event { times = suc event.times } ∷ events
    else event ∷ with_event site cause events

-- the failures by site and cause, in the order of their first time, behind those that were found
unfoldable pub grouped : List Event → List Note → List Event
grouped found [] = found
grouped found (Failed site cause ∷ rest) = grouped (with_event site cause found) rest
grouped found (Counts word ∷ rest) = grouped found rest
grouped found (Evaluated site ∷ rest) = grouped found rest
grouped found (Entered loop ∷ rest) = grouped found rest
grouped found (Turned loop turns ∷ rest) = grouped found rest

abbrev pub result_at : (Counted → Option ℕ) → End → State → FrameResult
result_at weights end s =
    record { count = count_of weights s.log; overflow = s.overflow; events = grouped [] s.log; end = end }

abbrev pub result_of : (Counted → Option ℕ) → Got ℤ → FrameResult
result_of weights (Gives z s) = result_at weights Ended s
result_of weights (Halts end s) = result_at weights end s

-- a run that has halted stays where it is
abbrev pub idle : Got ℤ → Got ℤ
idle (Gives z s) = Gives z s
idle (Halts end s) = Halts end (begun s.steps s)

-- what a frame does after what ran before it: nothing, where that has halted
abbrev pub then_frame : Code → Got ℤ → Frame → Got ℤ
then_frame code before frame = then_get (idle before) (λ z. run_frame code frame)

unfoldable pub results_from : Code → (Counted → Option ℕ) → Got ℤ → List Frame → List FrameResult
results_from code weights before [] = []
results_from code weights before (frame ∷ frames) =
    let ran = then_frame code before frame in
    result_of weights ran ∷ results_from code weights ran frames

-- what ran after these frames
unfoldable pub after : Code → Got ℤ → List Frame → Got ℤ
after code ran [] = ran
after code ran (frame ∷ frames) = after code (then_frame code ran frame) frames

abbrev pub started : Code → List ℤ → ℕ → Got ℤ
started code fill steps = run_init code steps (initial code fill)

-- the results of the static values with init, and of each frame. After a stop or the step limit each later result has
-- count 0, no events, Overflow as it stood, and the same end.
unfoldable pub run_of : Code → (Counted → Option ℕ) → List ℤ → ℕ → List Frame → List FrameResult
run_of code weights fill steps frames =
    result_of weights (started code fill steps) ∷ results_from code weights (started code fill steps) frames
