use Rattle.wm_interp.specs.Standing.{code_in, weights_in}
use Rattle.wm_program.specs.Code.{code_of}
use Rattle.wm_replay.proofs.Frames.{shown_run}
use Rattle.wm_replay.proofs.running.replay.Goals as goal
use Rattle.wm_weights.specs.Table.{weight_of}

pub returns : goal.returns
returns c =
    record {
      results =
          shown_run (code_of c.args.program.now) (code_in c.in_ok-machine.machine) (code_in c.start.new.self)
          (weight_of c.args.weights.now) (weights_in c.in_ok-machine.machine) (weights_in c.start.new.self)
          c.args.steps c.args.frames.now c.new-2.result.items c.in_ok-start.start c.in_ok-found.found.items
          c.in_ok-machine.ensures.code c.in_ok-machine.ensures.weights c.start.ensures.code c.start.ensures.weights
          c.new-2.ensures.items c.in_ok-start.ensures.result c.in_ok-found.ensures;
    }
