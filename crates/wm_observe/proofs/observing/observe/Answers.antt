use Rattle.wm_interp.specs.Standing.{code_in, weights_in}
use Rattle.wm_weights.specs.Table.{weight_of}
use Rattle.wm_observe.specs.Observation.{observation}
use Rattle.wm_observe.specs.Watched.{watched}
use Rattle.wm_observe.proofs.Watching.{seen_as, whole_observation}
use Rattle.wm_observe.proofs.observing.observe.Goals as goal

pub returns : goal.returns
returns c =
    record {
      seen =
          seen_as c.seen_of.result (watched c.watch_behind.new.watch) (observation c.args.program.now (weight_of c.args.weights.now) c.args.frames.now c.args.steps) c.seen_of.ensures
          (whole_observation c.args.program.now (code_in c.in_ok-machine.machine) (code_in c.start.new.self)
          (weight_of c.args.weights.now) (weights_in c.in_ok-machine.machine) (weights_in c.start.new.self)
          c.args.steps c.args.frames.now c.new-2.result.items c.in_ok-start.start c.is_several.result (watched c.in_ok-watch.watch) (watched c.watch_behind.new.watch)
          c.in_ok-machine.ensures.code c.in_ok-machine.ensures.weights c.start.ensures.code c.start.ensures.weights
          c.new-2.ensures.items c.in_ok-start.ensures.result c.in_ok-watch.ensures c.is_several.ensures c.in_ok-watch_behind.ensures);
    }
