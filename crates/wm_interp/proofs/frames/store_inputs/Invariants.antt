use Rattle.std.proofs.Common.{◌≡◌, drop, map}
use Rattle.wm_program.specs.Code.{code_of, input_of}
use Rattle.wm_program.specs.Runs.{with_inputs}
use Rattle.wm_interp.specs.Frames.{input_on}
use Rattle.wm_interp.specs.Seen.{held_of}
use Rattle.wm_interp.proofs.frames.store_inputs.Given as goal

abbrev pub invariant-loop-input : goal.invariant-loop-input
invariant-loop-input l =
    record (held_of l.memory) { state = with_inputs (code_of l.program) (map input_of (drop l.input-index l.program.inputs)) l.rest (held_of l.memory).state }
    ≡ input_on (code_of l.program) l.fn.inputs.values (held_of l.fn.memory)
