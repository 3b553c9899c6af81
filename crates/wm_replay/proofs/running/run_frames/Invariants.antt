-- What is left.
use Rattle.std.proofs.Common.{◌≡◌, [], drop}
use Rattle.wm_interp.specs.Standing.{code_in, stand_of, weights_in}
use Rattle.wm_program.specs.Runs.{results_from, started}
use Rattle.wm_replay.specs.Replay.{frames_given, up_to_halt}
use Rattle.wm_replay.proofs.Frames.{Left}
use Rattle.wm_replay.proofs.running.run_frames.Given as goal

abbrev pub invariant-loop-inputs : goal.invariant-loop-inputs
invariant-loop-inputs l =
    (code_in l.machine ≡ code_in l.fn.machine) × (weights_in l.machine ≡ weights_in l.fn.machine)
    × Left (code_in l.fn.machine) (weights_in l.fn.machine) (up_to_halt (results_from (code_in l.fn.machine) (weights_in l.fn.machine) (started (code_in l.fn.machine) [] l.steps) (frames_given l.steps l.frames))) l.found.items (stand_of l.machine) (frames_given l.steps (drop l.inputs-index l.frames))
