-- What an answer of the reader says, where memory may run out.
use Rattle.std.specs.Prelude.{◌≡◌, ℕ, ℤ, List, map, Vec, Result, Ok, Err}
use Rattle.std.specs.Borrow.{Bor}
use Rattle.std.specs.declared.alloc.Global.{Global}
use Rattle.wm_program.specs.declared.inputs.Inputs.{Inputs}
use Rattle.wm_samples.specs.declared.fault.SampleFault.{SampleFault}
use Rattle.wm_samples.specs.declared.fault.SampleFault.TheVariants.{Rest, OutOfRange, NoMemory}

-- the numbers of each frame
abbrev pub values_of : Vec Inputs Global → List (List ℤ)
values_of frames = map (λ (inputs : Inputs). inputs.values) frames.items

abbrev pub Fails : {A : Type 0} → SampleFault → Result A SampleFault → Type 0
Fails (Rest bytes) read = read ≡ Err (Rest bytes)
Fails (OutOfRange frame input cell value) read = read ≡ Err (OutOfRange frame input cell value)
Fails NoMemory read = Unit {0}

-- the answer, seen by view, is this one, but memory may run out
abbrev pub Gives : {X A : Type 0} → (X → A) → Result X SampleFault → Result A SampleFault → Type 0
Gives view (Ok x) read = read ≡ Ok (view x)
Gives view (Err fault) read = Fails fault read

-- the answer of a step gives the bytes that are left, beside the numbers so far
abbrev pub GivesState : Result (Bor (List ℕ)) SampleFault → List ℤ → Result (List ℤ × List ℕ) SampleFault → Type 0
GivesState (Ok rest) values read = read ≡ Ok (values, rest.now)
GivesState (Err fault) values read = Fails fault read
