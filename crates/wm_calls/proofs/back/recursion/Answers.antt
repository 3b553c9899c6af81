use Rattle.std.proofs.Common.{◌∙◌}
use Rattle.wm_calls.proofs.Endings.{in_vain, no_need}
use Rattle.wm_calls.proofs.back.recursion.Goals.{then-not-ends+in_ok-back+else-is_some, else-not-ends}
use Rattle.wm_calls.proofs.back.recursion.Goals as goal

pub loop-caller-preserved : goal.loop-caller-preserved
loop-caller-preserved c =
    elim c.if-not-ends.branch [
      | then-not-ends+in_ok-back+else-is_some w ↦
          in_vain c.args.calls.now c.loop-caller.caller c.index-calls-caller.result w.items.result.now w.in_ok-back.back c.loop-caller-test.true c.index-calls-caller.is w.items.ensures.items w.in_ok-back.ensures w.if-is_some.ensures
          ∙ c.loop-caller.invariant
      | else-not-ends w ↦
          no_need c.args.calls.now c.loop-caller.caller c.index-calls-caller.result c.as_slice.result.now c.in_ok-ending.ending.items c.loop-caller-test.true c.index-calls-caller.is c.as_slice.ensures.value c.in_ok-ending.ensures w.if-not-ends.ensures
          ∙ c.loop-caller.invariant
    ]
