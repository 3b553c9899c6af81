use Rattle.std.proofs.Common.{◌∙◌, ap, map}
use Rattle.std.proofs.lemmas.List.{map-append}
use Rattle.wm_program.specs.declared.inputs.Inputs.{Inputs}
use Rattle.wm_samples.specs.Form.{forms_of}
use Rattle.wm_samples.specs.Seen.{values_of}
use Rattle.wm_samples.proofs.Steps.{frame_read}
use Rattle.wm_samples.proofs.read.read_frames.Goals as goal

pub loop-frame-preserved : goal.loop-frame-preserved
loop-frame-preserved c =
    let read = rw c.new-values.ensures.empty at c.in-Ok.ensures.state in
    let pushed = ap (map (λ (inputs : Inputs). inputs.values)) c.in-Ok-push.ensures.items ∙ map-append (λ (inputs : Inputs). inputs.values) _ _ in
    frame_read c.args.count (forms_of c.args.program.now) c.loop-frame.frame (values_of c.loop-frame.frames) (values_of c.push.new.self) c.loop-frame.rest.now c.read_inputs.new.values c.in-Ok.left.now _ c.loop-frame-test.true read pushed c.loop-frame.invariant
