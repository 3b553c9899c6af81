use Rattle.std.proofs.Common.{◌≡◌, ◌++◌, drop, map}
use Rattle.wm_program.specs.Code.{input_of}
use Rattle.wm_flow.specs.Views.{bounded_of}
use Rattle.wm_flow.specs.Graphs.{scalar_inputs}
use Rattle.wm_frames.proofs.inputs.scalars.Given as goal

abbrev pub invariant-loop-input : goal.invariant-loop-input
invariant-loop-input l =
    map bounded_of l.list ++ scalar_inputs l.tables l.bases (map input_of (drop l.input-index l.inputs))
    ≡ scalar_inputs l.tables l.bases (map input_of l.inputs)
