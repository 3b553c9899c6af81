use Rattle.std.proofs.Common.{[], sym, ◌∙◌}
use Rattle.wm_interp.specs.Standing.{code_in, stand_of, weights_in}
use Rattle.wm_program.specs.Runs.{results_from, started}
use Rattle.wm_replay.specs.Replay.{frames_given, up_to_halt}
use Rattle.wm_replay.proofs.Frames.{ends, halted, went_on}
use Rattle.wm_replay.proofs.running.run_frames.Goals as goal

pub returns-then-not-goes_on : goal.returns-then-not-goes_on
returns-then-not-goes_on c =
    halted (code_in c.args.machine.now) (code_in c.loop-inputs.machine) (weights_in c.args.machine.now) (weights_in c.loop-inputs.machine)
    (up_to_halt (results_from (code_in c.args.machine.now) (weights_in c.args.machine.now) (started (code_in c.args.machine.now) [] c.args.steps) (frames_given c.args.steps c.args.frames.now)))
    c.loop-inputs.found.items c.push.new.self.items (stand_of c.loop-inputs.machine) c.args.steps c.args.frames.now c.loop-inputs.inputs-index c.inputs-item.result c.in_ok-result.result
    c.loop-inputs.invariant.0 c.loop-inputs.invariant.1 c.in_ok-push.ensures.items c.loop-inputs-test.true c.inputs-item.is c.loop-inputs.invariant.2 c.in_ok-result.ensures.result
    (sym c.is_ended-goes_on.ensures ∙ c.if-not-goes_on.true)

pub loop-inputs-preserved : goal.loop-inputs-preserved
loop-inputs-preserved c = (
  c.run_frame.ensures.code ∙ c.loop-inputs.invariant.0,
  c.run_frame.ensures.weights ∙ c.loop-inputs.invariant.1,
  went_on (code_in c.args.machine.now) (code_in c.loop-inputs.machine) (weights_in c.args.machine.now) (weights_in c.loop-inputs.machine)
      (up_to_halt (results_from (code_in c.args.machine.now) (weights_in c.args.machine.now) (started (code_in c.args.machine.now) [] c.args.steps) (frames_given c.args.steps c.args.frames.now)))
      c.loop-inputs.found.items c.push.new.self.items (stand_of c.loop-inputs.machine) c.args.steps c.args.frames.now c.loop-inputs.inputs-index c.inputs-item.result c.in_ok-result.result
      c.loop-inputs.invariant.0 c.loop-inputs.invariant.1 c.in_ok-push.ensures.items c.loop-inputs-test.true c.inputs-item.is c.loop-inputs.invariant.2 c.in_ok-result.ensures.result
      (stand_of c.run_frame.new.self) (sym c.is_ended-goes_on.ensures ∙ c.if-not-goes_on.false) c.in_ok-result.ensures.stands,
)

pub returns : goal.returns
returns c =
    ends (code_in c.args.machine.now) (weights_in c.args.machine.now)
    (up_to_halt (results_from (code_in c.args.machine.now) (weights_in c.args.machine.now) (started (code_in c.args.machine.now) [] c.args.steps) (frames_given c.args.steps c.args.frames.now)))
    c.loop-inputs.found.items (stand_of c.loop-inputs.machine) c.args.steps c.args.frames.now c.loop-inputs.inputs-index c.loop-inputs-test.false c.loop-inputs.invariant.2
