-- What is left.
use Rattle.std.proofs.Common.{◌≡◌, [], drop}
use Rattle.wm_interp.specs.Standing.{code_in, stand_of, weights_in}
use Rattle.wm_program.specs.Runs.{started}
use Rattle.wm_observe.specs.Observation.{moments, with_moments}
use Rattle.wm_observe.specs.Watched.{watched}
use Rattle.wm_observe.proofs.Watching.{Left}
use Rattle.wm_observe.proofs.observing.watch_frames.Given as goal

abbrev pub invariant-loop-inputs : goal.invariant-loop-inputs
invariant-loop-inputs l = record {
  code : code_in l.machine ≡ code_in l.fn.machine;
  weights : weights_in l.machine ≡ weights_in l.fn.machine;
  count : l.watch.frames ≡ l.inputs-index;
  rest : Left (code_in l.fn.machine) (weights_in l.fn.machine) l.several l.steps (with_moments l.several (moments (code_in l.fn.machine) (weights_in l.fn.machine) (started (code_in l.fn.machine) [] l.steps) l.steps l.frames) (watched l.fn.watch)) (watched l.watch) (stand_of l.machine) (drop l.inputs-index l.frames);
}
