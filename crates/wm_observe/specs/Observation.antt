-- What is seen of a program while sample frames are run.
use Rattle.std.specs.Prelude.{ℕ, suc, max, Bool, if◌then◌else◌, List, [], ◌∷◌, map, replicate, ℤ, Option, slice_index_or, slice_set}
use Rattle.wm_ops.specs.declared.words.Counted.{Counted}
use Rattle.wm_findings.specs.declared.findings.Seen.{Seen}
use Rattle.wm_program.specs.declared.inputs.Inputs.{Inputs}
use Rattle.wm_program.specs.declared.program.Program.{Program}
use Rattle.wm_program.specs.declared.results.FrameResult.{FrameResult}
use Rattle.wm_program.specs.Code.{Code, code_of}
use Rattle.wm_program.specs.Outcomes.{Got, Gives, Halts}
use Rattle.wm_program.specs.Runs.{Frame, result_of, started, then_frame}
use Rattle.wm_program.specs.State.{State}
use Rattle.wm_interp.specs.Standing.{frame_with}
use Rattle.wm_weights.specs.Table.{weight_of}
use Rattle.wm_observe.specs.Ended.{is_ended}
use Rattle.wm_observe.specs.Functions.{is_several, functions_in, function_of}
use Rattle.wm_observe.specs.Lines.{Line, lines_of, looked_at, unseen_from}

-- a frame that was run: the state as it began, its inputs, and what came of it
pub record Moment : Type 0 where
  pub before : State
  pub values : List ℤ
  pub result : FrameResult

abbrev pub state_in : Got ℤ → State
state_in (Gives z s) = s
state_in (Halts end s) = s

abbrev pub moment_of : Code → (Counted → Option ℕ) → Got ℤ → Frame → Moment
moment_of code weights before frame =
    record { before = state_in before; values = frame.values; result = result_of weights (then_frame code before frame) }

-- the frames that are run after what ran before them: up to the first that does not end, that one included
unfoldable pub moments : Code → (Counted → Option ℕ) → Got ℤ → ℕ → List Inputs → List Moment
moments code weights before steps [] = []
moments code weights before steps (inputs ∷ rest) =
    moment_of code weights before (frame_with inputs steps)
    ∷ (if is_ended (result_of weights (then_frame code before (frame_with inputs steps))).end
    then moments code weights (then_frame code before (frame_with inputs steps)) steps rest
    else [])

-- the frames that are run behind init; none where that does not end
unfoldable pub moments_behind : Code → (Counted → Option ℕ) → ℕ → List Inputs → List Moment
moments_behind code weights steps frames =
    if is_ended (result_of weights (started code [] steps)).end then moments code weights (started code [] steps) steps frames else []

-- how many frames were run, what was seen as they began, and the greatest count of each function
pub record Observation : Type 0 where
  pub frames : ℕ
  pub lines : List Line
  pub counts : List ℕ

abbrev pub observation_in : Seen → Observation
observation_in seen = record { frames = seen.frames; lines = lines_of seen.states; counts = seen.counts }

-- the counts with one more of this function
abbrev pub raised : List ℕ → ℕ → ℕ → List ℕ
raised counts function count = slice_set counts function (max (slice_index_or counts function 0) count)

-- with one more frame
abbrev pub with_moment : Bool → Moment → Observation → Observation
with_moment several moment found =
    record {
      frames = suc found.frames;
      lines = map (looked_at moment.before.objects) found.lines;
      counts = raised found.counts (function_of several moment.values) moment.result.count;
    }

abbrev pub with_moments : Bool → List Moment → Observation → Observation
with_moments several [] found = found
with_moments several (moment ∷ rest) found = with_moments several rest (with_moment several moment found)

-- before a frame was run
abbrev pub unseen : Program → Observation
unseen program =
    record { frames = 0; lines = unseen_from 0 program.objects; counts = replicate (functions_in program) 0 }

-- The observation of these frames, with an empty fill list. Init and each frame may make so many elementary steps.
unfoldable pub observation : Program → (Counted → Option ℕ) → List Inputs → ℕ → Observation
observation program weights frames steps =
    with_moments (is_several program) (moments_behind (code_of program) weights steps frames) (unseen program)
