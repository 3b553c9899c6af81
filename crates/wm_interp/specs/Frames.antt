-- What a machine does with a list of frames.
use Rattle.std.specs.Prelude.{ℕ, List, [], ◌∷◌, length, map, take, drop, replicate, ℤ, pos, Option, Some, None}
use Rattle.wm_ops.specs.declared.words.Counted.{Counted}
use Rattle.wm_program.specs.declared.program.Root.TheVariants as root
use Rattle.wm_program.specs.declared.results.End.{End}
use Rattle.wm_program.specs.declared.results.End.TheVariants.{Ended}
use Rattle.wm_program.specs.declared.results.FrameResult.{FrameResult}
use Rattle.wm_program.specs.State.{State}
use Rattle.wm_program.specs.Code.{Code, function_of}
use Rattle.wm_program.specs.Runs.{Frame, initial, with_inputs}
use Rattle.wm_interp.specs.Held.{Held, Gets, Has, Ends}
use Rattle.wm_interp.specs.Doing.{call_on}

-- what a machine holds between frames, and how the run has halted; nothing where it goes on
pub record Stand : Type 0 where
  pub held : Held
  pub halted : Option End

abbrev pub stand_in : {A : Type 0} → Gets A → Stand
stand_in (Has x q) = record { held = q; halted = None }
stand_in (Ends end q) = record { held = q; halted = Some end }

-- a frame begins: so many elementary steps, and nothing counted
abbrev pub begun_on : ℕ → Held → Held
begun_on steps q = record { state = record q.state { steps = steps }; count = 0; events = [] }

abbrev pub root_on : Code → (Counted → Option ℕ) → ℕ → Held → Gets ℤ
root_on code weights instance q =
    call_on code weights (length code.instances) (function_of code instance) (record { instance = instance; roots = [] }) [] q

abbrev pub init_on : Code → (Counted → Option ℕ) → Option ℕ → Held → Stand
init_on code weights None q = record { held = q; halted = None }
init_on code weights (Some instance) q = stand_in (root_on code weights instance q)

abbrev pub first_held : Code → List ℤ → Held
first_held code fill = record { state = initial code fill; count = 0; events = [] }

-- the static values, and then init
unfoldable pub started_on : Code → (Counted → Option ℕ) → List ℤ → ℕ → Stand
started_on code weights fill steps = init_on code weights code.init (begun_on steps (first_held code fill))

abbrev pub input_on : Code → List ℤ → Held → Held
input_on code values q = record q { state = with_inputs code code.inputs values q.state }

abbrev pub frame_by : Code → (Counted → Option ℕ) → Frame → Held → Option End → Stand
frame_by code weights frame q None = stand_in (root_on code weights code.frame (input_on code frame.values (begun_on frame.steps q)))
frame_by code weights frame q (Some end) = record { held = begun_on q.state.steps q; halted = Some end }

-- a frame; nothing, where the run has halted
unfoldable pub frame_on : Code → (Counted → Option ℕ) → Frame → Stand → Stand
frame_on code weights frame stand = frame_by code weights frame stand.held stand.halted

abbrev pub end_of : Option End → End
end_of None = Ended
end_of (Some end) = end

-- what is seen of it
abbrev pub shown_by : Stand → FrameResult
shown_by stand =
    record { count = stand.held.count; overflow = stand.held.state.overflow; events = stand.held.events; end = end_of stand.halted }
