use Rattle.std.proofs.Common.{◌≡◌, ◌+◌, [], sym, ap, ◌∙◌, arith}
use Rattle.wm_interp.specs.Standing.{code_in, stand_of, weights_in}
use Rattle.wm_program.specs.Runs.{started}
use Rattle.wm_observe.specs.Functions.{function_of}
use Rattle.wm_observe.specs.Observation.{moments, raised, with_moments}
use Rattle.wm_observe.specs.Watched.{watched}
use Rattle.wm_observe.proofs.Watching.{ends, halted, went_on}
use Rattle.wm_observe.proofs.observing.watch_frames.Goals as goal

pub returns-then-not-is_ended : goal.returns-then-not-is_ended
returns-then-not-is_ended c =
    halted (code_in c.args.machine.now) (code_in c.loop-inputs.machine) (weights_in c.args.machine.now) (weights_in c.loop-inputs.machine) c.args.several c.args.steps
    (with_moments c.args.several (moments (code_in c.args.machine.now) (weights_in c.args.machine.now) (started (code_in c.args.machine.now) [] c.args.steps) c.args.steps c.args.frames.now) (watched c.args.watch.now))
    (watched c.loop-inputs.watch) (stand_of c.loop-inputs.machine) c.args.frames.now c.loop-inputs.inputs-index c.inputs-item.result c.in_ok-result.result
    (watched (record { frames = c.loop-inputs.watch.frames + 1; lines = c.look.new.lines; counts = c.raise.new.counts }))
    c.loop-inputs.invariant.code c.loop-inputs.invariant.weights c.loop-inputs-test.true c.inputs-item.is c.loop-inputs.invariant.rest c.in_ok-result.ensures.result
    (omega arith) c.look.ensures (c.raise.ensures ∙ ap (λ k. raised c.loop-inputs.watch.counts.items k c.in_ok-result.result.count) (c.function_of.ensures ∙ ap (function_of c.args.several) c.items.ensures.items))
    (sym c.is_ended.ensures ∙ c.if-not-is_ended.true)

pub loop-inputs-preserved : goal.loop-inputs-preserved
loop-inputs-preserved c = record {
  code = c.run_frame.ensures.code ∙ c.loop-inputs.invariant.code;
  weights = c.run_frame.ensures.weights ∙ c.loop-inputs.invariant.weights;
  count = ap (λ n. n + 1) c.loop-inputs.invariant.count;
  rest =
      went_on (code_in c.args.machine.now) (code_in c.loop-inputs.machine) (weights_in c.args.machine.now) (weights_in c.loop-inputs.machine) c.args.several c.args.steps
      (with_moments c.args.several (moments (code_in c.args.machine.now) (weights_in c.args.machine.now) (started (code_in c.args.machine.now) [] c.args.steps) c.args.steps c.args.frames.now) (watched c.args.watch.now))
      (watched c.loop-inputs.watch) (stand_of c.loop-inputs.machine) c.args.frames.now c.loop-inputs.inputs-index c.inputs-item.result c.in_ok-result.result
      (watched (record { frames = c.loop-inputs.watch.frames + 1; lines = c.look.new.lines; counts = c.raise.new.counts }))
      c.loop-inputs.invariant.code c.loop-inputs.invariant.weights c.loop-inputs-test.true c.inputs-item.is c.loop-inputs.invariant.rest c.in_ok-result.ensures.result
      (omega arith) c.look.ensures (c.raise.ensures ∙ ap (λ k. raised c.loop-inputs.watch.counts.items k c.in_ok-result.result.count) (c.function_of.ensures ∙ ap (function_of c.args.several) c.items.ensures.items))
      (stand_of c.run_frame.new.self) (sym c.is_ended.ensures ∙ c.if-not-is_ended.false) c.in_ok-result.ensures.stands;
}

pub returns : goal.returns
returns c =
    ends (code_in c.args.machine.now) (weights_in c.args.machine.now) c.args.several c.args.steps
    (with_moments c.args.several (moments (code_in c.args.machine.now) (weights_in c.args.machine.now) (started (code_in c.args.machine.now) [] c.args.steps) c.args.steps c.args.frames.now) (watched c.args.watch.now))
    (watched c.loop-inputs.watch) (stand_of c.loop-inputs.machine) c.args.frames.now c.loop-inputs.inputs-index c.loop-inputs-test.false c.loop-inputs.invariant.rest
