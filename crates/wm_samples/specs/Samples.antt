-- The frames of a sample file, or its first fault.
use Rattle.std.specs.Prelude.{ℕ, zero, suc, ◌+◌, ◌/◌, ◌%◌, ℤ, int_le, Bool, ◌&&◌, if◌then◌else◌, ◌==◌, List, [], ◌∷◌, ◌++◌, length, drop, Result, Ok, Err}
use Rattle.wm_samples.specs.Numbers.{bytes_of, number_in}
use Rattle.wm_samples.specs.Form.{Form, frame_bytes}
use Rattle.wm_samples.specs.declared.fault.SampleFault.{SampleFault}
use Rattle.wm_samples.specs.declared.fault.SampleFault.TheVariants.{Rest, OutOfRange, NoMemory}

-- the numbers so far, and the bytes that are left
abbrev pub State : Type 0
State = List ℤ × List ℕ

-- where a cell stands: its frame, its input and its number, each from 0
pub record Cell : Type 0 where
  pub frame : ℕ
  pub input : ℕ
  pub cell : ℕ

infixl 10 ◌>>=◌
abbrev pub ◌>>=◌ : {A B : Type 0} → Result A SampleFault → (A → Result B SampleFault) → Result B SampleFault
(Ok x) >>= f = f x
(Err e) >>= f = Err e

-- the number of a cell, where it lies in the range of its input
abbrev pub in_range : Form → ℤ → Bool
in_range form number = int_le form.low number && int_le number form.high

abbrev pub checked : Cell → Form → ℤ → Result ℤ SampleFault
checked at form number = if in_range form number then Ok number else Err (OutOfRange at.frame at.input at.cell number)

abbrev pub read_cell : Cell → Form → State → Result State SampleFault
read_cell at form state =
    checked at form (number_in form.width state.1) >>= λ number. Ok (state.0 ++ number ∷ [], drop (bytes_of form.width) state.1)

-- this many cells of an input, from a cell on
abbrev pub read_cells : ℕ → ℕ → ℕ → ℕ → Form → State → Result State SampleFault
read_cells zero frame input cell form state = Ok state
read_cells (suc left) frame input cell form state =
    read_cell (record { frame = frame; input = input; cell = cell }) form state >>= λ next. read_cells left frame input (cell + 1) form next

-- the inputs of a frame, from an input on
abbrev pub read_inputs : List Form → ℕ → ℕ → State → Result State SampleFault
read_inputs [] frame input state = Ok state
read_inputs (form ∷ forms) frame input state =
    read_cells form.cells frame input 0 form state >>= λ next. read_inputs forms frame (input + 1) next

-- this many frames, from a frame on, behind those that were read
abbrev pub read_frames : ℕ → List Form → ℕ → List (List ℤ) → List ℕ → Result (List (List ℤ)) SampleFault
read_frames zero forms frame done bytes = Ok done
read_frames (suc left) forms frame done bytes =
    read_inputs forms frame 0 ([], bytes) >>= λ state. read_frames left forms (frame + 1) (done ++ state.0 ∷ []) state.1

-- how many frames there are, or the bytes that are left over
abbrev pub count_of : ℕ → ℕ → Result ℕ SampleFault
count_of size bytes =
    if size == 0 then (if bytes == 0 then Ok 0 else Err (Rest bytes))
    else (if bytes % size == 0 then Ok (bytes / size) else Err (Rest (bytes % size)))

abbrev pub frames_of : List Form → List ℕ → Result (List (List ℤ)) SampleFault
frames_of forms bytes = count_of (frame_bytes forms) (length bytes) >>= λ count. read_frames count forms 0 [] bytes
