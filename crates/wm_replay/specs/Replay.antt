-- The results of a run, up to the first part of it that does not end.
use Rattle.std.specs.Prelude.{ℕ, ℤ, Bool, true, false, if◌then◌else◌, List, [], ◌∷◌, map}
use Rattle.wm_program.specs.declared.inputs.Inputs.{Inputs}
use Rattle.wm_program.specs.declared.results.End.{End}
use Rattle.wm_program.specs.declared.results.End.TheVariants.{Ended, Stopped, StepLimit}
use Rattle.wm_program.specs.declared.results.FrameResult.{FrameResult}
use Rattle.wm_program.specs.Runs.{Frame}
use Rattle.wm_interp.specs.Standing.{frame_with}

-- neither a stop nor the limit of steps
abbrev pub is_ended : End → Bool
is_ended Ended = true
is_ended (Stopped site cause) = false
is_ended StepLimit = false

-- the results up to the first that has not ended, that one included
abbrev pub up_to_halt : List FrameResult → List FrameResult
up_to_halt [] = []
up_to_halt (found ∷ rest) = found ∷ (if is_ended found.end then up_to_halt rest else [])

-- frames with these numbers, each of which may make so many elementary steps
abbrev pub frames_of : ℕ → List (List ℤ) → List Frame
frames_of steps [] = []
frames_of steps (values ∷ rest) = record { values = values; steps = steps } ∷ frames_of steps rest

-- the numbers of each frame
abbrev pub numbers_of : List Inputs → List (List ℤ)
numbers_of frames = map (λ (inputs : Inputs). inputs.values) frames

-- the same frames, as they are given
abbrev pub frames_given : ℕ → List Inputs → List Frame
frames_given steps [] = []
frames_given steps (inputs ∷ rest) = frame_with inputs steps ∷ frames_given steps rest
